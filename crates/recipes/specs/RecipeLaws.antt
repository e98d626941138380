-- Laws of recipes and their ledgers in the shape of the code's needs, and that the two forms say the same. Assumes nothing.
use Rattle.std.specs.Prelude.{◌≡◌, Bool, List, [], ◌∷◌, ◌++◌, ℕ, ◌+◌, ◌*◌, ◌/◌, ◌<◌, ◌≤◌, length, get_or, take, drop}
use Rattle.std.proofs.Math.Path.{refl}
use Rattle.std.proofs.Common.{sym, ◌∙◌, ap, ap₂, subst, arith, add-one, append_assoc, length-append, length-drop, length-take, length-take-le, take_at, drop_at, drop-drop, take-suc, take_all}
use borrow.Rule.Slice.PartMut.{put_mid}
use Rattle.std.proofs.Math.Bool.{true, false, cond}
use Rattle.std.proofs.Math.Dec.{ltb}
use borrow.Author.Tests.{lt-ltb, le-ltb, ltb-false}
use Rattle.slices.specs.Lists.{over}
use Rattle.engine.specs.Answer.{Answer}
use Rattle.steps.specs.Steps.{Mesh, Room, mesh}
use Rattle.steps.specs.declared.Step.{Step}
use Rattle.mesh.specs.declared.MeshMut.{MeshMut}
use Rattle.chain.specs.Lent.{space}
use Rattle.chain.specs.Trail.{Trail, trail, stopped, Zero}
use Rattle.chain.specs.ChainLaws.{trail-few}
use Rattle.chain.specs.declared.Row.{Row}
use Rattle.chain.specs.declared.Ran.{Ran}
use Rattle.runner.specs.Run.{run_trail, blanks, Went, Runs}
use Rattle.recipes.specs.Recipe.{unmasked, recipe_trail, short_ran, blank, flat_row, flat_rows, Entered}

-- a front has no more elements than asked for
pub take-few : {A : Type 0} (n : ℕ) (l : List A) → length (take n l) ≤ n
take-few n l = omega (arith, length-take n l)

-- ---- the ways through a recipe

module _ (lent : ℕ) (steps : List Step) (n : ℕ) (w : Mesh) (ra rb rz : Room) where
  is-short : n ≤ 16 → lent < n → recipe_trail lent steps n w ra rb rz ≡ stopped 13 3
  unfolding recipe_trail
  is-short h k = rw (le-ltb _ _ h, lt-ltb _ _ k) refl

  is-run : (n ≤ 16 → n ≤ lent) → recipe_trail lent steps n w ra rb rz ≡ run_trail unmasked steps n w ra rb rz
  unfolding recipe_trail run_trail
  is-run h = by (ltb 16 n) refl
    where
      by : (c : Bool) → ltb 16 n ≡ c →
          cond c (stopped 2 3) (cond (ltb lent n) (stopped 13 3) (trail unmasked (take n steps) 1 w ra rb rz)) ≡ cond c (stopped 2 3) (trail unmasked (take n steps) 1 w ra rb rz)
      by true e = refl
      by false e = rw (le-ltb _ _ (h (ltb-false 16 n e))) refl

  few-by : (most : ℕ) (c d : Bool) → ltb 16 n ≡ c → ltb lent n ≡ d → (n ≤ 16 → n ≤ lent → n ≤ most) →
      length (cond c (stopped 2 3) (cond d (stopped 13 3) (trail unmasked (take n steps) 1 w ra rb rz))).rows ≤ most
  few-by most true d e f h = omega arith
  few-by most false true e f h = omega arith
  few-by most false false e f h =
      let i = h (ltb-false 16 n e) (ltb-false lent n f) in
      omega (arith, trail-few unmasked (take n steps) 1 w ra rb rz, take-few n steps)

  -- the finished steps' rows are 16 at most, and the ledger has room for them
  pub rows-most : length (recipe_trail lent steps n w ra rb rz).rows ≤ 16
  unfolding recipe_trail
  rows-most = few-by 16 (ltb 16 n) (ltb lent n) refl refl (λ h k. h)

  pub rows_fit : length (recipe_trail lent steps n w ra rb rz).rows ≤ lent
  unfolding recipe_trail
  rows_fit = few-by lent (ltb 16 n) (ltb lent n) refl refl (λ h k. k)

  -- the two ways through the core
  pub went-short :
      {a b z a' b' : Mesh} {r : Ran} → n ≤ 16 → lent < n → Zero a.offsets a.corners a.coords a'.offsets a'.corners a'.coords →
      Zero b.offsets b.corners b.coords b'.offsets b'.corners b'.coords → r ≡ short_ran →
      Went (recipe_trail lent steps n w ra rb rz) a b z r a' b' z
  went-short {a} {b} {z} {a'} {b'} {r} h k f s e =
      subst (λ (t : Trail). Went t a b z r a' b' z) (sym (is-short h k))
      (record {
        ended = record { answer = ap (λ (x : Ran). x.answer) e; offsets = refl; corners = refl; coords = refl };
        first = f;
        second = s;
        rows = ap (λ (x : Ran). x.rows) e;
        done = ap (λ (x : Ran). x.done) e;
      })

  pub went-run : {a b z a' b' z' : Mesh} {r : Ran} → (n ≤ 16 → n ≤ lent) →
      Went (run_trail unmasked steps n w ra rb rz) a b z r a' b' z' → Went (recipe_trail lent steps n w ra rb rz) a b z r a' b' z'
  went-run {a} {b} {z} {a'} {b'} {z'} {r} h e = subst (λ (t : Trail). Went t a b z r a' b' z') (sym (is-run h)) e

pub runs_recipe : (lent : ℕ) (steps : List Step) (n : ℕ) (w : Mesh) {a b z a' b' z' : MeshMut} {r : Ran} → (n ≤ 16 → n ≤ lent) →
    Runs (run_trail unmasked steps n w) a b z r a' b' z' → Runs (recipe_trail lent steps n w) a b z r a' b' z'
runs_recipe lent steps n w {a} {b} {z} h e = record { went = went-run lent steps n w (space a) (space b) (space z) h e.went; kept = e.kept }

-- there are 16 rows, and the finished ones among them fit the ledger
pub rows-in : (lent : ℕ) (steps : List Step) (n : ℕ) (w : Mesh) {a b z a' b' z' : MeshMut} {r : Ran} → Runs (recipe_trail lent steps n w) a b z r a' b' z' →
    (length r.rows ≡ 16) × ((r.done ≤ 16) × (r.done ≤ lent))
rows-in lent steps n w {a} {b} {z} h =
    let e = h.went in
    let t : List Row = (recipe_trail lent steps n w (space a) (space b) (space z)).rows in
    let m : length t ≤ 16 = rows-most lent steps n w (space a) (space b) (space z) in
    let f : length t ≤ lent = rows_fit lent steps n w (space a) (space b) (space z) in
    (ap length e.rows ∙ omega (arith, length-append t (drop (length t) blanks), length-drop (length t) blanks), (omega (arith, e.done), omega (arith, e.done)))

-- ---- flat rows

pub flat-length : (rs : List Row) → length (flat_rows rs) ≡ 4 * length rs
unfolding flat_rows
flat-length [] = omega arith
flat-length (r ∷ rs) = omega (arith, flat-length rs)

flat_append : (rs ss : List Row) → flat_rows (rs ++ ss) ≡ flat_rows rs ++ flat_rows ss
unfolding flat_rows
flat_append [] ss = refl
flat_append (r ∷ rs) ss = ap (λ (l : List ℕ). flat_row r ++ l) (flat_append rs ss)

flat-past : (rs ss : List Row) → drop (length (flat_rows rs)) (flat_rows ss) ≡ flat_rows (drop (length rs) ss)
unfolding flat_rows
flat-past [] ss = refl
flat-past (r ∷ rs) [] = refl
flat-past (r ∷ rs) (s ∷ ss) = flat-past rs ss

pub flat-over : (new old : List Row) → flat_rows (over new old) ≡ over (flat_rows new) (flat_rows old)
flat-over new old = flat_append new (drop (length new) old) ∙ ap (λ (l : List ℕ). flat_rows new ++ l) (sym (flat-past new old))

flat-more : (made : List Row) (i : ℕ) → i < length made → flat_rows (take i made) ++ flat_row (get_or made i blank) ≡ flat_rows (take (i + 1) made)
unfolding flat_rows
flat-more made i h =
    sym (flat_append (take i made) (get_or made i blank ∷ []))
    ∙ ap flat_rows (sym (take-suc made i blank h) ∙ ap (λ (j : ℕ). take j made) (sym (add-one i)))

-- one row more, written after those before it
over-more : (new old more : List ℕ) (a k : ℕ) → length new ≡ a → length more ≡ k → put_mid a k (over new old) more ≡ over (new ++ more) old
over-more new old more a k e h =
    let n : length (new ++ more) ≡ a + k = length-append new more ∙ ap₂ (λ (i j : ℕ). i + j) e h in
    rw (take_at new (drop (length new) old) a e, drop_at new (drop (length new) old) a e, n, e, drop-drop) (sym (append_assoc new more _))

pub flat-push : (made : List Row) (old l more : List ℕ) (i a k : ℕ) → i < length made → a ≡ 4 * i → k ≡ 4 → l ≡ over (flat_rows (take i made)) old → more ≡ flat_row (get_or made i blank) →
    put_mid a k l more ≡ over (flat_rows (take (i + 1) made)) old
flat-push made old l more i a k h p q e w =
    let n : length (take i made) ≡ i = length-take-le i made (omega arith) in
    let m : length (flat_rows (take i made)) ≡ a = omega (arith, flat-length (take i made)) in
    ap₂ (put_mid a k) e w
    ∙ over-more (flat_rows (take i made)) old (flat_row (get_or made i blank)) a k m (sym q)
    ∙ ap (λ (f : List ℕ). over f old) (flat-more made i h)

-- the first n of some steps alone
pub recipe-front : (lent : ℕ) (steps : List Step) (n : ℕ) (w : Mesh) (ra rb rz : Room) → n ≤ length steps →
    recipe_trail lent (take n steps) (length (take n steps)) w ra rb rz ≡ recipe_trail lent steps n w ra rb rz
unfolding recipe_trail
recipe-front lent steps n w ra rb rz h = rw (length-take-le n steps h, take_all n (take n steps) (take-few n steps)) refl

-- ---- the two forms say the same

-- as many rows are lent
same-lent : (rows : List Row) → length (flat_rows rows) / 4 ≡ length rows
same-lent rows = let e = flat-length rows in omega arith

-- what the second form leaves of some rows, the first leaves of their flat numbers
pub same-forms : (rows rows' : List Row) (steps : List Step) (n : ℕ) (w : Mesh) (ra rb rz : Room) {a b z a' b' z' : Mesh} {r : Answer} →
    Entered (recipe_trail (length rows) steps n w ra rb rz) (recipe_trail (length rows) steps n w ra rb rz).rows rows a b z r rows' a' b' z' →
    Entered (recipe_trail (length (flat_rows rows) / 4) steps n w ra rb rz) (flat_rows (recipe_trail (length (flat_rows rows) / 4) steps n w ra rb rz).rows) (flat_rows rows) a b z r (flat_rows rows') a' b' z'
same-forms rows rows' steps n w ra rb rz {a} {b} {z} {a'} {b'} {z'} {r} e =
    subst (λ (k : ℕ). Entered (recipe_trail k steps n w ra rb rz) (flat_rows (recipe_trail k steps n w ra rb rz).rows) (flat_rows rows) a b z r (flat_rows rows') a' b' z') (sym (same-lent rows))
    (record { ended = e.ended; first = e.first; second = e.second; ledger = ap flat_rows e.ledger ∙ flat-over (recipe_trail (length rows) steps n w ra rb rz).rows rows })

-- two answers that a recipe's contract allows agree
one-mesh : {m n : Mesh} → m.offsets ≡ n.offsets → m.corners ≡ n.corners → m.coords ≡ n.coords → m ≡ n
one-mesh p q r = λ i. mesh (p i) (q i) (r i)

one-zero : (m : Mesh) {m₁ m₂ : Mesh} → Zero m.offsets m.corners m.coords m₁.offsets m₁.corners m₁.coords →
    Zero m.offsets m.corners m.coords m₂.offsets m₂.corners m₂.coords → m₁ ≡ m₂
one-zero m e f = one-mesh (e.offsets ∙ sym f.offsets) (e.corners ∙ sym f.corners) (e.coords ∙ sym f.coords)

pub entered-agree : {A : Type 0} {t : Trail} {rows l l₁ l₂ : List A} {a b z a₁ b₁ z₁ a₂ b₂ z₂ : Mesh} {r₁ r₂ : Answer} →
    Entered t rows l a b z r₁ l₁ a₁ b₁ z₁ → Entered t rows l a b z r₂ l₂ a₂ b₂ z₂ → (r₁ ≡ r₂) × ((l₁ ≡ l₂) × ((a₁ ≡ a₂) × ((b₁ ≡ b₂) × (z₁ ≡ z₂))))
entered-agree {a = a} {b = b} e f = (
  e.ended.answer ∙ sym f.ended.answer,
  (
    e.ledger ∙ sym f.ledger,
    (
      one-zero a e.first f.first,
      (
        one-zero b e.second f.second,
        one-mesh (e.ended.offsets ∙ sym f.ended.offsets) (e.ended.corners ∙ sym f.ended.corners) (e.ended.coords ∙ sym f.ended.coords),
      ),
    ),
  ),
)
