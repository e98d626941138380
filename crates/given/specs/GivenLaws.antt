-- Laws of steps given as words in the shape of the code's needs, and that a file's steps, so given, are the file's. Assumes nothing.
use Rattle.std.specs.Prelude.{Ok, Err, Option, Some, None}
use Rattle.std.specs.Prelude.{◌≡◌, refl, Bool, true, false, cond, not, ◌&&◌, List, [], ◌∷◌, ◌++◌, map, ℕ, zero, suc, ◌+◌, ◌-◌, ◌*◌, ◌/◌, ◌<◌, ◌≤◌, min, length, get_or, set, take, ltb, eqb, Float}
use Rattle.std.proofs.Common.{sym, ◌∙◌, ap, ap₂, subst, true≢false, not-suc-le-zero, le_of_suc-le-suc, le_refl, add-one, take-take, arith, length-take, length-take-le, take_all, take-suc, lt-ltb, le-ltb, ltb-true, ltb-false}
use Rattle.std.proofs.lemmas.List.Edits.{sets}
use Rattle.slices.specs.First.{first, any, first-is, not-any, lowest, found_at, found_none}
use Rattle.slices.specs.Lists.{over, sets-push, sets_over}
use Rattle.steps.specs.declared.Step.{Step}
use Rattle.words.specs.Words.{word_at, whole_at}
use Rattle.parts.specs.StepWords.{good_step}
use Rattle.parts.specs.Part.{Part}
use Rattle.parts.specs.Part.{Has, Stops}
use Rattle.parts.specs.Parts.{and_then, count_at, step_says, whole_says, items, section, faces}
use Rattle.parts.specs.Laws.{has-is, apart}
use Rattle.panel.specs.Format.{settle, positions_at, faces_at, end_at, ending, checked, run, step_at, Contents, contents, Reading, refused, holds, reading_as, reading, filed_of, fillers}
use Rattle.panel.specs.Laws.{length_run, Known, KnownAs, known, filed-is}
use Rattle.panel.specs.Filed.{Filed}
use Rattle.panel.specs.Filed.{Fine, Refused}
use Rattle.mesh.specs.Mesh.{faces as faces_count, faces_of}
use Rattle.mesh.specs.Tests.{wrong_shape}
use Rattle.writer.specs.File.{given, file_of}
use Rattle.writer.specs.Answer.{Wrote, written_of, bytes_after}
use Rattle.writer.specs.Written.{Written}
use Rattle.writer.specs.Written as written
use Rattle.given.specs.Given.{from_words, is_step, unknown, steps_in, strange, strange_at, four_at, lent_steps, fours_after, StepsRead, given_written, GivenWrote}

-- ---- the steps given

map-append : {A B : Type 0} (f : A → B) (l r : List A) → map f (l ++ r) ≡ map f l ++ map f r
map-append f [] r = refl
map-append {A} {B} f (x ∷ l) r = ap (λ (t : List B). f x ∷ t) (map-append f l r)

length-map : {A B : Type 0} (f : A → B) (l : List A) → length (map f l) ≡ length l
length-map f [] = refl
length-map f (x ∷ l) = ap suc (length-map f l)

-- before the first
pub take_none : (ws : List (List ℕ)) (old : List Step) → old ≡ sets old 0 (map from_words (take 0 ws))
take_none ws old = refl

-- one more
pub take_more :
    (ws : List (List ℕ)) (i : ℕ) (old l : List Step) (x : Step) → i < length ws → l ≡ sets old 0 (map from_words (take i ws)) → x ≡ from_words (get_or ws i []) →
    set l i x ≡ sets old 0 (map from_words (take (i + 1) ws))
take_more ws i old l x h e q =
    let n : i ≡ 0 + length (map from_words (take i ws)) = omega (arith, length-map from_words (take i ws), length-take-le i ws (omega arith)) in
    let m : take (i + 1) ws ≡ take i ws ++ (get_or ws i [] ∷ []) = ap (λ (j : ℕ). take j ws) (add-one i) ∙ take-suc ws i [] h in
    ap₂ (λ (t : List Step) (j : ℕ). set t j x) e n
    ∙ sets-push old 0 (map from_words (take i ws)) x
    ∙ ap (λ (y : Step). sets old 0 (map from_words (take i ws) ++ (y ∷ []))) q
    ∙ ap (sets old 0) (sym (ap (map from_words) m ∙ map-append from_words (take i ws) (get_or ws i [] ∷ [])))

-- all that are taken
take_min : (n : ℕ) (ws : List (List ℕ)) → take (min n (length ws)) ws ≡ take n ws
take_min n ws = by (ltb n (length ws)) refl
  where
    by : (b : Bool) → ltb n (length ws) ≡ b → take (min n (length ws)) ws ≡ take n ws
    by true e = let h = ltb-true n (length ws) e in let m : min n (length ws) ≡ n = omega arith in ap (λ (j : ℕ). take j ws) m
    by false e =
        let h = ltb-false n (length ws) e in
        let m : min n (length ws) ≡ length ws = omega arith in
        ap (λ (j : ℕ). take j ws) m ∙ take_all (length ws) ws (omega arith) ∙ sym (take_all n ws h)

pub take_done :
    (ws : List (List ℕ)) (i n : ℕ) (l : List Step) → i ≡ n → n ≡ min 16 (length ws) → l ≡ sets fillers 0 (map from_words (take i ws)) → l ≡ steps_in ws
unfolding steps_in
take_done ws i n l h w e =
    let a : length (map from_words (take 16 ws)) ≤ 16 = omega (arith, length-map from_words (take 16 ws), length-take 16 ws) in
    e ∙ ap (λ (t : List (List ℕ)). sets fillers 0 (map from_words t)) (ap (λ (j : ℕ). take j ws) (h ∙ w) ∙ take_min 16 ws)
    ∙ sets_over fillers (map from_words (take 16 ws)) a

-- ---- unknown steps

pub is-unknown : (ws : List (List ℕ)) (i : ℕ) (g : Bool) → g ≡ is_step (get_or ws i []) → g ≡ false → unknown ws i ≡ true
is-unknown ws i g e h = ap not (sym e ∙ h)

pub is_known : (ws : List (List ℕ)) (i : ℕ) (g : Bool) → g ≡ is_step (get_or ws i []) → g ≡ true → unknown ws i ≡ false
is_known ws i g e h = ap not (sym e ∙ h)

pub first-few : (ws : List (List ℕ)) → first (unknown ws) (length ws) ≤ length ws
first-few ws = (first-is (unknown ws) (length ws)).within

pub strange-many : (ws : List (List ℕ)) → 16 < length ws → None ≡ cond (strange ws) (Some (strange_at ws)) None
strange-many ws h = rw (lt-ltb 16 (length ws) h) refl

pub strange-none : (ws : List (List ℕ)) → length ws ≤ 16 → None ≡ lowest (unknown ws) (length ws) → None ≡ cond (strange ws) (Some (strange_at ws)) None
strange-none ws h e =
    let n = found_none e refl in
    rw (le-ltb 16 (length ws) h, le-ltb (first (unknown ws) (length ws)) (length ws) (omega (arith, n.first))) refl

pub strange-some : (ws : List (List ℕ)) (i : ℕ) → length ws ≤ 16 → Some i ≡ lowest (unknown ws) (length ws) → Some (16 * i) ≡ cond (strange ws) (Some (strange_at ws)) None
strange-some ws i h e =
    let n = found_at e refl in
    rw (le-ltb 16 (length ws) h, lt-ltb (first (unknown ws) (length ws)) (length ws) (omega (arith, n.first, n.within))) (ap (λ (j : ℕ). Some (16 * j)) n.first)

pub strange-by : (x y : Bool) → not x && y ≡ true → (x ≡ false) × (y ≡ true)
strange-by true y e = absurd (true≢false (sym e))
strange-by false y e = (refl, e)

pub strange-short : (ws : List (List ℕ)) (b : Bool) → b ≡ strange ws → b ≡ true → length ws ≤ 16
strange-short ws b e h = ltb-false 16 (length ws) (strange-by (ltb 16 (length ws)) (any (unknown ws) (length ws)) (sym e ∙ h)).0

-- ---- the three ways through a file's steps

known_of : (s : List ℕ) (q : Filed) {n v f c : ℕ} → q ≡ checked s → q ≡ Fine n v f c → Known s n v f c
known_of s q e h = subst (KnownAs s) (sym e ∙ h) (known s)

-- the bytes that the steps take
pub file-long : (s : List ℕ) (q : Filed) (w : ℕ) {n v f c : ℕ} → q ≡ checked s → q ≡ Fine n v f c → w ≡ n → 4 + 16 * w ≤ length s
file-long s q w e h p = omega (arith, (known_of s q e h).long)

reading-of : (s : List ℕ) (q x : Filed) → q ≡ checked s → q ≡ x → reading s ≡ reading_as s x
unfolding reading
reading-of s q x e h = ap (reading_as s) (sym e ∙ h)

steps-long : (s : List ℕ) (n v f : ℕ) → length (contents s n v f).steps ≡ n
unfolding contents
steps-long s n v f = length_run (step_at s) 16 4 n

pub file-stop :
    (s : List ℕ) (l : List (List ℕ)) (q : Filed) {a b : ℕ} → q ≡ checked s → q ≡ Refused a b → StepsRead s (lent_steps (reading s) (length l)) l q l
file-stop s l q {a} {b} e h =
    subst (λ (y : Reading). StepsRead s (lent_steps y (length l)) l q l) (sym (reading-of s q (Refused a b) e h)) (record { answer = h; steps = refl })

module _ (s : List ℕ) (l : List (List ℕ)) {n v f c : ℕ} (q : Filed) (w : ℕ) (e : q ≡ checked s) (h : q ≡ Fine n v f c) (p : w ≡ n) where
  pub file-short : length l < w → StepsRead s (lent_steps (reading s) (length l)) l (Refused 13 3) l
  file-short k =
      let m = steps-long s n v f in
      let t : ltb (length l) (length (contents s n v f).steps) ≡ true = lt-ltb (length l) (length (contents s n v f).steps) (omega (arith, m)) in
      let d : lent_steps (reading s) (length l) ≡ refused 13 3 =
      ap (λ (y : Reading). lent_steps y (length l)) (reading-of s q (Fine n v f c) e h) ∙ ap (λ (y : Bool). cond y (refused 13 3) (holds (contents s n v f))) t in
      subst (λ (y : Reading). StepsRead s y l (Refused 13 3) l) (sym d) (record { answer = refl; steps = refl })

  pub file-done :
      (l' : List (List ℕ)) → w ≤ length l → l' ≡ sets l 0 (run (four_at s) 16 4 w) → StepsRead s (lent_steps (reading s) (length l)) l (Fine n v f c) l'
  file-done l' k u =
      let m = steps-long s n v f in
      let t : ltb (length l) (length (contents s n v f).steps) ≡ false = le-ltb (length l) (length (contents s n v f).steps) (omega (arith, m)) in
      let d : lent_steps (reading s) (length l) ≡ holds (contents s n v f) =
      ap (λ (y : Reading). lent_steps y (length l)) (reading-of s q (Fine n v f c) e h) ∙ ap (λ (y : Bool). cond y (refused 13 3) (holds (contents s n v f))) t in
      subst (λ (y : Reading). StepsRead s y l (Fine n v f c) l') (sym d)
      (record {
        answer = filed-is s n v f c (known_of s q e h);
        steps =
            u ∙ sets_over l (run (four_at s) 16 4 w) (omega (arith, length_run (four_at s) 16 4 w))
            ∙ ap (λ (j : ℕ). over (run (four_at s) 16 4 j) l) (p ∙ sym m);
      })

-- ---- a file written

-- the place is one, or none
pub strange_told : (ws : List (List ℕ)) {p : ℕ} → Some p ≡ cond (strange ws) (Some (strange_at ws)) None → (strange ws ≡ true) × (p ≡ strange_at ws)
strange_told ws {p} e = by (strange ws) refl e
  where
    by : (b : Bool) → strange ws ≡ b → Some p ≡ cond b (Some (strange_at ws)) None → (strange ws ≡ true) × (p ≡ strange_at ws)
    by true h e = (h, cc)
    by false h e = absurd (let z : ◌≡◌ {A = ℕ} 0 1 = cc in omega arith)

pub strange_not : (ws : List (List ℕ)) → None ≡ cond (strange ws) (Some (strange_at ws)) None → strange ws ≡ false
strange_not ws e = by (strange ws) refl e
  where
    by : (b : Bool) → strange ws ≡ b → None ≡ cond b (Some (strange_at ws)) None → strange ws ≡ false
    by true h e = absurd (let z : ◌≡◌ {A = ℕ} 0 1 = cc in omega arith)
    by false h e = h

pub wrote-strange :
    (ws : List (List ℕ)) (o k : List ℕ) (x : List Float) (out : List ℕ) {p : ℕ} → Some p ≡ cond (strange ws) (Some (strange_at ws)) None →
    GivenWrote ws o k x out (written.Refused 17 p) out
unfolding given_written
wrote-strange ws o k x out e = let t = strange_told ws e in record { answer = rw t.0 (ap (λ (y : ℕ). written.Refused 17 y) t.1); bytes = refl }

-- ---- what the writer says of steps, for a slice of them

module _ (o k : List ℕ) (x : List Float) (room : ℕ) where
  -- the writer's answer where the limits of a file are met up to the number of steps, for what it would write
  abbrev by_limits : Contents → Written
  by_limits q =
      cond (ltb 400 (faces_count o)) (written.Refused 2 0)
      (cond (ltb 1200 (length k)) (written.Refused 2 1)
      (cond (ltb 400 (length x / 3)) (written.Refused 2 2)
      (cond (ltb room (length (file_of q))) (written.Refused 13 0) (written.Done (length (file_of q))))))

  abbrev by_shape : Written → Written
  by_shape w = cond (any (wrong_shape o (length k) (length x)) 2) (written.Refused 1 (first (wrong_shape o (length k) (length x)) 2)) w

  -- steps that are not taken are not read
  written-few : (l : List Step) (n : ℕ) → written_of (take n l) n o k x room ≡ written_of l n o k x room
  unfolding written_of given
  written-few l n = ap (λ (t : List Step). by_shape (cond (ltb 16 n) (written.Refused 2 3) (by_limits (record { steps = t; faces = faces_of o k; coords = x })))) (take-take n n l (le_refl n))

  -- more than 16 are refused by their number alone
  many-is : (l : List Step) (n : ℕ) → 16 < n → written_of l n o k x room ≡ by_shape (written.Refused 2 3)
  unfolding written_of
  many-is l n h = ap (λ (b : Bool). by_shape (cond b (written.Refused 2 3) (by_limits (given l n o k x)))) (lt-ltb 16 n h)

refused-bytes : (o k : List ℕ) (x : List Float) (r : Written) (new out : List ℕ) → r ≡ by_shape o k x 0 (written.Refused 2 3) → bytes_after r new out ≡ out
refused-bytes o k x r new out e = ap (λ (y : Written). bytes_after y new out) e ∙ go (any (wrong_shape o (length k) (length x)) 2)
  where
    go : (b : Bool) → bytes_after (cond b (written.Refused 1 (first (wrong_shape o (length k) (length x)) 2)) (written.Refused 2 3)) new out ≡ out
    go true = refl
    go false = refl

pub wrote-few :
    (ws : List (List ℕ)) (o k : List ℕ) (x : List Float) (out out' : List ℕ) (r : Written) {s : List Step} → None ≡ cond (strange ws) (Some (strange_at ws)) None →
    s ≡ steps_in ws → length ws ≤ length s → Wrote (take (length ws) s) (length (take (length ws) s)) o k x out r out' → GivenWrote ws o k x out r out'
unfolding given_written given
wrote-few ws o k x out out' r {s} e q h u =
    let n : ℕ = length ws in
    let w : Wrote (take n s) n o k x out r out' = subst (λ (m : ℕ). Wrote (take n s) m o k x out r out') (length-take-le n s h) u in
    let z : Wrote s n o k x out r out' =
    record {
      answer = w.answer ∙ written-few o k x (length out) s n;
      bytes = w.bytes ∙ ap (λ (t : List Step). bytes_after r (file_of (record { steps = t; faces = faces_of o k; coords = x })) out) (take-take n n s (le_refl n));
    }
    in
    let y : Wrote (steps_in ws) n o k x out r out' = subst (λ (t : List Step). Wrote t n o k x out r out') q z in
    record { answer = rw (strange_not ws e) y.answer; bytes = y.bytes }

pub wrote-many :
    (ws : List (List ℕ)) (o k : List ℕ) (x : List Float) (out out' : List ℕ) (r : Written) (l : List Step) → None ≡ cond (strange ws) (Some (strange_at ws)) None →
    16 < length ws → 16 < length l → Wrote l (length l) o k x out r out' → GivenWrote ws o k x out r out'
unfolding given_written
wrote-many ws o k x out out' r l e h g u =
    let t : r ≡ by_shape o k x 0 (written.Refused 2 3) = u.answer ∙ many-is o k x (length out) l (length l) g in
    record {
      answer = rw (strange_not ws e) (t ∙ sym (many-is o k x (length out) (steps_in ws) (length ws) h));
      bytes = u.bytes ∙ refused-bytes o k x r _ out t ∙ sym (refused-bytes o k x r _ out t);
    }

-- ---- a file's steps, read as words and given, are the file's

four-step : (s : List ℕ) (at : ℕ) → from_words (four_at s at) ≡ step_at s at
unfolding from_words step_at
four-step s at = refl

pub fours-steps : (s : List ℕ) (at n : ℕ) → map from_words (run (four_at s) 16 at n) ≡ run (step_at s) 16 at n
unfolding run
fours-steps s at zero = refl
fours-steps s at (suc n) = ap₂ (λ (x : Step) (l : List Step). x ∷ l) (four-step s at) (fours-steps s (at + 16) n)

-- a step that passes is one
four-good : (s : List ℕ) (at : ℕ) (x : ℕ) → step_says s at ≡ Has x → is_step (four_at s at) ≡ true
unfolding step_says is_step
four-good s at x e = by (whole_at s at 16) (good_step (word_at s at) (word_at s (at + 4)) (word_at s (at + 8)) (word_at s (at + 12))) e
  where
    by : (a b : Bool) → cond a (cond b (Has 0) (Stops 17 at)) (Stops 15 at) ≡ Has x → b ≡ true
    by true true e = refl
    by true false e = absurd (apart e)
    by false b e = absurd (apart e)

-- and so are all of them
fours-good : (s : List ℕ) (at n x : ℕ) → items (step_says s) 16 at n ≡ Has x → (i : ℕ) → i < n → unknown (run (four_at s) 16 at n) i ≡ false
unfolding items run
fours-good s at zero x e i h = absurd (not-suc-le-zero h)
fours-good s at (suc n) x e i h = go (step_says s at) refl e (λ q j k. fours-good s (at + 16) n x q j k) i h
  where
    go :
        (p : Part) → step_says s at ≡ p → and_then p (λ _. items (step_says s) 16 (at + 16) n) ≡ Has x →
        (items (step_says s) 16 (at + 16) n ≡ Has x → (j : ℕ) → j < n → unknown (run (four_at s) 16 (at + 16) n) j ≡ false) →
        (i : ℕ) → i < suc n → unknown (four_at s at ∷ run (four_at s) 16 (at + 16) n) i ≡ false
    go (Err r1) q e r i h = absurd (apart e)
    go (Ok y) q e r zero h = ap not (four-good s at y q)
    go (Ok y) q e r (suc i) h = r e i (le_of_suc-le-suc h)

-- the steps' part of a file that passes
abbrev Passed : List ℕ → Filed → Type 0
Passed s (Ok h) = (x : ℕ) × (items (step_says s) 16 4 h.steps ≡ Has x)
Passed s (Err r) = Unit

settled : (s : List ℕ) (p : Part) (k : ℕ → Filed) → ((n : ℕ) → Passed s (k n)) → Passed s (settle p k)
settled s (Ok n) k h = h n
settled s (Err r) k h = tt

section-items : (s : List ℕ) (n : ℕ) → section s 0 16 16 (step_says s) ≡ Has n → (x : ℕ) × (items (step_says s) 16 4 n ≡ Has x)
unfolding section
section-items s n e = go (count_at s 0 16) e
  where
    inner : (m : ℕ) (p : Part) → items (step_says s) 16 4 m ≡ p → and_then p (λ _. Has m) ≡ Has n → (x : ℕ) × (items (step_says s) 16 4 n ≡ Has x)
    inner m (Ok x) q e = (x, ap (items (step_says s) 16 4) (sym (has-is e)) ∙ q)
    inner m (Err r) q e = absurd (apart e)

    go : (p : Part) → and_then p (λ m. and_then (items (step_says s) 16 4 m) (λ _. Has m)) ≡ Has n → (x : ℕ) × (items (step_says s) 16 4 n ≡ Has x)
    go (Ok m) e = inner m (items (step_says s) 16 4 m) refl e
    go (Err r) e = absurd (apart e)

passed : (s : List ℕ) → Passed s (checked s)
unfolding checked ending
passed s = go (section s 0 16 16 (step_says s)) refl
  where
    end : (n v f c : ℕ) → section s 0 16 16 (step_says s) ≡ Has n → (b : Bool) → Passed s (cond b (Fine n v f c) (Refused 18 (end_at n v f c)))
    end n v f c e true = section-items s n e
    end n v f c e false = tt

    go : (p : Part) → section s 0 16 16 (step_says s) ≡ p → Passed s (settle p (λ n. settle (section s (positions_at n) 400 12 (whole_says s 12)) (λ v. settle (count_at s (faces_at n v) 400) (λ f. settle (faces s (faces_at n v + 4) 0 f) (λ c. ending s n v f c)))))
    go (Err r) e = tt
    go (Ok n) e =
        settled s (section s (positions_at n) 400 12 (whole_says s 12)) _ (λ v. settled s (count_at s (faces_at n v) 400) _ (λ f. settled s (faces s (faces_at n v + 4) 0 f) _ (λ c. end n v f c e (eqb (length s) (end_at n v f c)))))

-- what file_steps stores of a file
abbrev pub fours_of : List ℕ → Contents → List (List ℕ)
fours_of s q = run (four_at s) 16 4 (length q.steps)

-- a file that holds q: its words stand for q's steps, none is unknown, and there are at most 16
pub record FileGiven (s : List ℕ) (q : Contents) : Type 0 where
  pub steps : map from_words (fours_of s q) ≡ q.steps
  pub good : any (unknown (fours_of s q)) (length (fours_of s q)) ≡ false
  pub few : length (fours_of s q) ≤ 16

given-as :
    (s : List ℕ) (q : Contents) (n x : ℕ) → length q.steps ≡ n → q.steps ≡ run (step_at s) 16 4 n → items (step_says s) 16 4 n ≡ Has x → n ≤ 16 →
    FileGiven s q
given-as s q n x m e g h =
    let ws : List (List ℕ) = run (four_at s) 16 4 n in
    let w : fours_of s q ≡ ws = ap (run (four_at s) 16 4) m in
    record {
      steps = ap (map from_words) w ∙ fours-steps s 4 n ∙ sym e;
      good =
          ap (λ (l : List (List ℕ)). any (unknown l) (length l)) w
          ∙ ap (any (unknown ws)) (length_run (four_at s) 16 4 n)
          ∙ not-any (unknown ws) n (λ k l u. true≢false (sym u ∙ fours-good s 4 n x g k l));
      few = omega (arith, length_run (four_at s) 16 4 (length q.steps), m, h);
    }

given-fine : (s : List ℕ) (n v f c : ℕ) → checked s ≡ Fine n v f c → FileGiven s (contents s n v f)
unfolding contents
given-fine s n v f c e =
    let g = subst (Passed s) e (passed s) in
    given-as s (contents s n v f) n g.0 (steps-long s n v f) refl g.1 (known_of s (checked s) refl e).few-steps

abbrev held_of : Contents → Reading → Contents
held_of d (holds q) = q
held_of d (refused a b) = d

pub file-given : (s : List ℕ) (q : Contents) → reading s ≡ holds q → FileGiven s q
unfolding reading
file-given s q e = go (checked s) refl e
  where
    go : (x : Filed) → checked s ≡ x → reading_as s x ≡ holds q → FileGiven s q
    go (Ok h1) h e = subst (FileGiven s) (ap (held_of q) e) (given-fine s h1.steps h1.positions h1.faces h1.corners h)
    go (Err r) h e = absurd (let z : ◌≡◌ {A = ℕ} 0 1 = cc in omega arith)
