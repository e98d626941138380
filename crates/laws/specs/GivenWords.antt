-- Laws of steps given as words, that no proof of their crate calls. Assumes nothing.
use Rattle.std.specs.Prelude.{◌≡◌, refl, Bool, true, false, cond, List, ℕ, ◌*◌, ◌<◌, ◌≤◌, length, ltb, Float}
use Rattle.std.proofs.Common.{sym, ◌∙◌, ap, subst, lt-ltb, le-ltb}
use Rattle.slices.specs.First.{first}
use Rattle.steps.specs.declared.Step.{Step}
use Rattle.writer.specs.Answer.{Wrote}
use Rattle.writer.specs.Written.{Written}
use Rattle.writer.specs.Written as written
use Rattle.given.specs.Given.{unknown, steps_in, strange, strange_at, given_written, GivenWrote}

pub strange-many : (ws : List (List ℕ)) → 16 < length ws → false ≡ strange ws
strange-many ws h = rw (lt-ltb 16 (length ws) h) refl

pub strange-few : (ws : List (List ℕ)) (i : ℕ) → length ws ≤ 16 → i ≡ first (unknown ws) (length ws) → ltb i (length ws) ≡ strange ws
strange-few ws i h e = rw (le-ltb 16 (length ws) h) (ap (λ (j : ℕ). ltb j (length ws)) e)

-- the place of the first
pub place-yes :
    (ws : List (List ℕ)) {b : Bool} {i p : ℕ} → b ≡ strange ws → b ≡ true → i ≡ first (unknown ws) (length ws) → p ≡ 16 * i →
    p ≡ cond (strange ws) (strange_at ws) 0
place-yes ws e h q w = w ∙ ap (λ (j : ℕ). 16 * j) q ∙ sym (ap (λ (y : Bool). cond y (strange_at ws) 0) (sym e ∙ h))

pub place-no : (ws : List (List ℕ)) {b : Bool} → b ≡ strange ws → b ≡ false → 0 ≡ cond (strange ws) (strange_at ws) 0
place-no ws e h = sym (ap (λ (y : Bool). cond y (strange_at ws) 0) (sym e ∙ h))

pub place_is : (ws : List (List ℕ)) {p : ℕ} → strange ws ≡ true → p ≡ cond (strange ws) (strange_at ws) 0 → p ≡ strange_at ws
place_is ws h e = e ∙ ap (λ (y : Bool). cond y (strange_at ws) 0) h

-- a file written of steps of which one is unknown
pub wrote-strange :
    (ws : List (List ℕ)) (o k : List ℕ) (x : List Float) (out : List ℕ) {b : Bool} {p : ℕ} → b ≡ strange ws → b ≡ true →
    p ≡ cond (strange ws) (strange_at ws) 0 → GivenWrote ws o k x out (written.Refused 17 p) out
unfolding given_written
wrote-strange ws o k x out e h q = record { answer = rw (sym e ∙ h) (ap (λ (y : ℕ). written.Refused 17 y) (place_is ws (sym e ∙ h) q)); bytes = refl }

-- a file written of steps that are all known
pub wrote-plain :
    (ws : List (List ℕ)) (o k : List ℕ) (x : List Float) (out out' : List ℕ) (r : Written) {b : Bool} {s : List Step} → b ≡ strange ws → b ≡ false →
    s ≡ steps_in ws → Wrote s (length ws) o k x out r out' → GivenWrote ws o k x out r out'
unfolding given_written
wrote-plain ws o k x out out' r e h q u =
    let z : Wrote (steps_in ws) (length ws) o k x out r out' = subst (λ (y : List Step). Wrote y (length ws) o k x out r out') q u in
    record { answer = rw (sym e ∙ h) z.answer; bytes = z.bytes }
