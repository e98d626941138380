-- Laws of recipes and their ledgers, that no proof of their crate calls. Assumes nothing.
use Rattle.std.specs.Prelude.{◌≡◌, List, [], ◌∷◌, ◌++◌, ℕ, suc, ◌+◌, ◌*◌, ◌/◌, ◌<◌, ◌≤◌, length, get_or, set, take, drop}
use Rattle.std.proofs.Math.Path.{refl}
use Rattle.std.proofs.Common.{sym, ◌∙◌, ap, ap₂, arith, add-one, length-set, length-take-le, take_at, take-suc}
use Rattle.std.proofs.lemmas.List.Edits.{sets}
use Rattle.slices.specs.Lists.{over, sets_over, sets-append}
use Rattle.engine.specs.Answer.{Answer}
use Rattle.steps.specs.Steps.{Mesh, Room}
use Rattle.steps.specs.declared.Step.{Step}
use Rattle.chain.specs.Trail.{Trail, Ended}
use Rattle.chain.specs.declared.Row.{Row}
use Rattle.chain.specs.declared.Ran.{Ran}
use Rattle.runner.specs.Run.{blanks, Went}
use Rattle.recipes.specs.Recipe.{recipe_trail, blank, flat_row, flat_rows, Entered}
use Rattle.recipes.specs.RecipeLaws.{take-few, rows-most, rows_fit, flat-length}

-- what a writer of flat rows asks
pub went-few : (l : List ℕ) (steps : List Step) (n : ℕ) (w : Mesh) (ra rb rz : Room) {a b z a' b' z' : Mesh} {r : Ran} →
    Went (recipe_trail (length l / 4) steps n w ra rb rz) a b z r a' b' z' → (r.done ≤ 16) × (4 * r.done ≤ length l)
went-few l steps n w ra rb rz e =
    let m = rows-most (length l / 4) steps n w ra rb rz in
    let f = rows_fit (length l / 4) steps n w ra rb rz in
    (omega (arith, e.done, m), omega (arith, e.done, f))

-- ---- flat rows

flat_append : (rs ss : List Row) → flat_rows (rs ++ ss) ≡ flat_rows rs ++ flat_rows ss
unfolding flat_rows
flat_append [] ss = refl
flat_append (r ∷ rs) ss = ap (λ (l : List ℕ). flat_row r ++ l) (flat_append rs ss)

flat-more : (made : List Row) (i : ℕ) → i < length made → flat_rows (take i made) ++ flat_row (get_or made i blank) ≡ flat_rows (take (i + 1) made)
unfolding flat_rows
flat-more made i h =
    sym (flat_append (take i made) (get_or made i blank ∷ []))
    ∙ ap flat_rows (sym (take-suc made i blank h) ∙ ap (λ (j : ℕ). take j made) (sym (add-one i)))

-- one row more
pub flat-push : (made : List Row) (old : List ℕ) (i at : ℕ) (l l' : List ℕ) → i < length made → at ≡ 4 * i → l ≡ sets old 0 (flat_rows (take i made)) →
    l' ≡ sets l at (flat_row (get_or made i blank)) → l' ≡ sets old 0 (flat_rows (take (i + 1) made))
flat-push made old i at l l' h q e w =
    let n : length (take i made) ≡ i = length-take-le i made (omega arith) in
    let m : at ≡ 0 + length (flat_rows (take i made)) = omega (arith, flat-length (take i made)) in
    w
    ∙ ap₂ (λ (t : List ℕ) (j : ℕ). sets t j (flat_row (get_or made i blank))) e m
    ∙ sets-append old 0 (flat_rows (take i made)) (flat_row (get_or made i blank))
    ∙ ap (sets old 0) (flat-more made i h)

-- all of them
pub flat-all : (made : List Row) (old : List ℕ) (i n : ℕ) (l : List ℕ) → i ≡ n → 4 * n ≤ length old → l ≡ sets old 0 (flat_rows (take i made)) → l ≡ over (flat_rows (take n made)) old
flat-all made old i n l q h e =
    e
    ∙ ap (λ (j : ℕ). sets old 0 (flat_rows (take j made))) q
    ∙ sets_over old (flat_rows (take n made)) (omega (arith, flat-length (take n made), take-few n made))

-- four numbers one after the other
pub in-set : (l : List ℕ) (i x j : ℕ) → j < length l → j < length (set l i x)
in-set l i x j h = rw length-set h

pub four-sets : (l : List ℕ) (at p q r s : ℕ) → set (set (set (set l at p) (at + 1) q) (at + 2) r) (at + 3) s ≡ sets l at (p ∷ q ∷ r ∷ s ∷ [])
four-sets l at p q r s =
    let e : at + 1 ≡ suc at = omega arith in
    let f : at + 2 ≡ suc (suc at) = omega arith in
    let g : at + 3 ≡ suc (suc (suc at)) = omega arith in
    rw (e, f, g) refl

-- ---- from the core to the two forms

module _ {t : Trail} {a b z a' b' z' : Mesh} {r : Ran} (e : Went t a b z r a' b' z') where
  finished : (m : List Row) (k : ℕ) → m ≡ r.rows → k ≡ r.done → take k m ≡ t.rows
  finished m k p q = ap₂ take (q ∙ e.done) (p ∙ e.rows) ∙ take_at t.rows (drop (length t.rows) blanks) (length t.rows) refl

  answered : {s : Answer} → s ≡ r.answer → Ended t z.offsets z.corners z.coords s z'.offsets z'.corners z'.coords
  answered p = record { answer = p ∙ e.ended.answer; offsets = e.ended.offsets; corners = e.ended.corners; coords = e.ended.coords }

  pub entered-rows : {s : Answer} {m l l' : List Row} {k : ℕ} → s ≡ r.answer → m ≡ r.rows → k ≡ r.done → l' ≡ over (take k m) l → Entered t t.rows l a b z s l' a' b' z'
  entered-rows {s} {m} {l} {l'} {k} p q d w =
      record { ended = answered p; first = e.first; second = e.second; ledger = w ∙ ap (λ (x : List Row). over x l) (finished m k q d) }

  pub entered-flat : {l l' : List ℕ} → l' ≡ over (flat_rows (take r.done r.rows)) l → Entered t (flat_rows t.rows) l a b z r.answer l' a' b' z'
  entered-flat {l} w =
      record { ended = answered refl; first = e.first; second = e.second; ledger = w ∙ ap (λ (x : List Row). over (flat_rows x) l) (finished r.rows r.done refl refl) }
