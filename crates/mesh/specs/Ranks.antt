-- The ranks of edges: two corners have one rank where they are the same or mates; half of the windows ascend.
-- Assumes nothing.
use Rattle.std.specs.Prelude.{ℕ, ◌+◌, ◌≤◌, ◌<◌, ◌≡◌, Bool, true, false, cond, not, List, ◌⊎◌, length}
use Rattle.std.proofs.Math.Path.{refl, ap}
use Rattle.std.proofs.Common.{sym, ◌∙◌, true≢false, inl, inr, eq-or-lt_of_le, lt_irrefl}
use Rattle.std.proofs.Math.Logic.{⊎_elim}
use native.Mathlib.Omega.{arith}
use Rattle.std.proofs.Math.ListN.{get_or}
use borrow.Author.Tests.{lt-ltb, le-ltb, ltb-true, ltb-false}
use Rattle.slices.specs.First.{count}
use Rattle.mesh.specs.Mesh.{next, mate, turn}
use Rattle.mesh.specs.Corners.{prev-next}
use Rattle.mesh.specs.Closed.{Surface, mate-lt, mate-from, mate-to, mate-mate}
use Rattle.mesh.specs.Edges.{up, rank, edges}
use Rattle.mesh.specs.Count.{count-lt, count-inj, count-into, count-not}
use Rattle.mesh.specs.Unlike.{ends-apart}

-- the corner of the two of an edge whose window ascends
unfoldable pub rep : List ℕ → List ℕ → ℕ → ℕ
rep o k c = cond (up o k c) c (mate o k c)

not-true : (b : Bool) → not b ≡ true → b ≡ false
not-true true e = absurd (true≢false (sym e))
not-true false e = refl

module _ (o k : List ℕ) (w : Surface o k) where
  -- the turn of a next is a mate
  pub turn-next : (c : ℕ) → c < length k → turn o k (next o c) ≡ mate o k c
  unfolding turn
  turn-next c h = ap (mate o k) (prev-next o _ w.shaped c h)

  -- ---- the ascending one of the two
  turned_up : (c : ℕ) → c < length k → up o k c ≡ false → up o k (mate o k c) ≡ true
  unfolding up
  turned_up c h e =
      let a = mate-from o k w.closed c h in
      let b = mate-to o k w.closed c h in
      let f = ltb-false (get_or k c 0) (get_or k (next o c) 0) e in
      let l : get_or k (next o c) 0 < get_or k c 0 = ⊎_elim (λ q. absurd (ends-apart o k w c h (sym q))) (λ l. l) (eq-or-lt_of_le f) in
      rw (a, b) (lt-ltb (get_or k (next o c) 0) (get_or k c 0) l)

  turned_down : (c : ℕ) → c < length k → up o k c ≡ true → up o k (mate o k c) ≡ false
  unfolding up
  turned_down c h e =
      let a = mate-from o k w.closed c h in
      let b = mate-to o k w.closed c h in
      let f = ltb-true (get_or k c 0) (get_or k (next o c) 0) e in
      let l : get_or k c 0 ≤ get_or k (next o c) 0 = omega arith in
      rw (a, b) (le-ltb (get_or k (next o c) 0) (get_or k c 0) l)

  pub rep-yes : (c : ℕ) → up o k c ≡ true → rep o k c ≡ c
  unfolding rep
  rep-yes c e = rw e

  pub rep-no : (c : ℕ) → up o k c ≡ false → rep o k c ≡ mate o k c
  unfolding rep
  rep-no c e = rw e

  pub rep-is : (c : ℕ) → c < length k → (rep o k c < length k) × (up o k (rep o k c) ≡ true)
  rep-is c h = go (up o k c) refl
    where
      go : (b : Bool) → up o k c ≡ b → (rep o k c < length k) × (up o k (rep o k c) ≡ true)
      go true e = rw (rep-yes c e) (h, e)
      go false e = rw (rep-no c e) (mate-lt o k w.closed c h, turned_up c h e)

  pub rep-mate : (c : ℕ) → c < length k → rep o k (mate o k c) ≡ rep o k c
  rep-mate c h = go (up o k c) refl
    where
      go : (b : Bool) → up o k c ≡ b → rep o k (mate o k c) ≡ rep o k c
      go true e = rep-no (mate o k c) (turned_down c h e) ∙ mate-mate o k w.closed c h ∙ sym (rep-yes c e)
      go false e = rep-yes (mate o k c) (turned_up c h e) ∙ sym (rep-no c e)

  -- a corner and its mate have one number, which is below the number of edges
  pub rank-mate : (c : ℕ) → c < length k → rank o k (mate o k c) ≡ rank o k c
  unfolding rank rep
  rank-mate c h = ap (count (up o k)) (rep-mate c h)

  pub rank_up : (c : ℕ) → up o k c ≡ true → rank o k c ≡ count (up o k) c
  unfolding rank rep
  rank_up c e = ap (count (up o k)) (rep-yes c e)

  pub rank_lt : (c : ℕ) → c < length k → rank o k c < edges o k
  unfolding rank rep
  rank_lt c h = let r = rep-is c h in count-lt (up o k) (rep o k c) (length k) r.1 r.0

  -- and no others have
  pub rank_same : (c d : ℕ) → c < length k → d < length k → rank o k c ≡ rank o k d → (c ≡ d) ⊎ (c ≡ mate o k d)
  unfolding rank rep
  rank_same c d hc hd e = go (up o k c) (up o k d) refl refl
    where
      q : rep o k c ≡ rep o k d
      q = count-inj (up o k) (rep o k c) (rep o k d) (rep-is c hc).1 (rep-is d hd).1 e

      go : (a b : Bool) → up o k c ≡ a → up o k d ≡ b → (c ≡ d) ⊎ (c ≡ mate o k d)
      go true true a b = inl (sym (rep-yes c a) ∙ q ∙ rep-yes d b)
      go true false a b = inr (sym (rep-yes c a) ∙ q ∙ rep-no d b)
      go false true a b = inr (sym (mate-mate o k w.closed c hc) ∙ ap (mate o k) (sym (rep-no c a) ∙ q ∙ rep-yes d b))
      go false false a b = inl (sym (mate-mate o k w.closed c hc) ∙ ap (mate o k) (sym (rep-no c a) ∙ q ∙ rep-no d b) ∙ mate-mate o k w.closed d hd)

  -- ---- half of the corners ascend
  mates-apart : (c d : ℕ) → c < d → d < length k → mate o k c ≡ mate o k d → ⊥
  mates-apart c d a h e =
      let q : c ≡ d = sym (mate-mate o k w.closed c (omega arith)) ∙ ap (mate o k) e ∙ mate-mate o k w.closed d h in
      lt_irrefl d (omega arith)

  pub halves : edges o k + edges o k ≡ length k
  halves =
      let a = count-into (up o k) (length k) (length k) (mate o k) (λ c. not (up o k c)) (λ c h e. (mate-lt o k w.closed c h, ap not (turned_down c h e))) (λ c d a b s t. mates-apart c d a b) in
      let b = count-into (λ c. not (up o k c)) (length k) (length k) (mate o k) (up o k) (λ c h e. (mate-lt o k w.closed c h, turned_up c h (not-true _ e))) (λ c d a b s t. mates-apart c d a b) in
      let c = count-not (up o k) (length k) in
      omega arith
