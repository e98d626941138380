-- An edge's place in the edge list is its rank, and the list is half as long as the corners. Assumes nothing.
use Prim.Native.Nat.{ℕ, zero, suc, ◌+◌, ◌≤◌, ◌<◌}
use Rattle.std.specs.Prelude.{◌≡◌, Bool, ◌⊎◌}
use Rattle.std.proofs.Math.Path.{refl, sym, ap, ap₂}
use Rattle.std.proofs.Common.{◌∙◌, arith, eq-or-lt_of_le, le_of_suc-le-suc, not-suc-le-zero}
use Rattle.std.proofs.Math.Bool.{true, false}
use mathlib.Core.List.{List, [], ◌++◌}
use Rattle.std.proofs.Math.Logic.{⊎_elim}
use Rattle.std.proofs.Math.ListN.{length, get_or, get_or-append}
use Rattle.std.proofs.Math.Seq.{get_or-append_seam}
use borrow.Author.Tests.{lt-ltb, le-ltb, ltb-true, ltb-false}
use Rattle.slices.specs.First.{count}
use Rattle.slices.specs.Lists.{each}
use Rattle.mesh.specs.Mesh.{next, window, pair_of, ordered_of}
use Rattle.mesh.specs.Tests.{verdict, edge_tests}
use Rattle.mesh.specs.Closed.{Surface, mate-from, mate-to, closed-good}
use Rattle.mesh.specs.Edges.{edge, up, rank}
use Rattle.mesh.specs.Count.{count-lt}
use Rattle.mesh.specs.Unlike.{ends-apart}
use Rattle.mesh.specs.Ranks.{rep, rep-yes, rep-no, rep-is, halves}
use Rattle.mesh.specs.Verdict.{Good}
use Rattle.edges.specs.EdgeList.{edge_list, rise, all-rise, length-rise, length-list}

-- two numbers in order
ordered-up : (a b : ℕ) → a ≤ b → pair_of a b ≡ ordered_of (pair_of a b)
ordered-up a b h = rw (le-ltb b a h) refl

ordered-down : (a b : ℕ) → b < a → pair_of b a ≡ ordered_of (pair_of a b)
ordered-down a b h = rw (lt-ltb b a h) refl

module _ (o k : List ℕ) (w : Surface o k) where
  at-rise : (n c : ℕ) → c < n → up o k c ≡ true → get_or (each (rise o k) n) (count (up o k) c) [] ≡ window o k c
  unfolding each
  at-rise zero c h e = absurd (not-suc-le-zero h)
  at-rise (suc n) c h e = go (λ l. at-rise n c l e) (eq-or-lt_of_le (le_of_suc-le-suc h))
    where
      here : c ≡ n → get_or (each (rise o k) n ++ rise o k n) (count (up o k) c) [] ≡ window o k c
      here q =
          let u : up o k n ≡ true = ap (up o k) (sym q) ∙ e in
          let m : count (up o k) c ≡ length (each (rise o k) n) = ap (count (up o k)) q ∙ sym (length-rise o k n) in
          rw (u, m) (get_or-append_seam (each (rise o k) n) (window o k n) [] [] ∙ ap (window o k) (sym q))

      go : (c < n → get_or (each (rise o k) n) (count (up o k) c) [] ≡ window o k c) → (c ≡ n) ⊎ (c < n) → get_or (each (rise o k) n ++ rise o k n) (count (up o k) c) [] ≡ window o k c
      go r s = ⊎_elim here
          (λ l. get_or-append (each (rise o k) n) (rise o k n) [] (count (up o k) c) (let a = count-lt (up o k) c n e l in let b = length-rise o k n in omega arith) ∙ r l)
          s

  rep-window : (c : ℕ) → c < length k → window o k (rep o k c) ≡ ordered_of (window o k c)
  unfolding window up
  rep-window c h = go (up o k c) refl
    where
      go : (b : Bool) → up o k c ≡ b → window o k (rep o k c) ≡ ordered_of (window o k c)
      go true e =
          let l = ltb-true (get_or k c 0) (get_or k (next o c) 0) e in
          ap (window o k) (rep-yes o k w c e) ∙ ordered-up (get_or k c 0) (get_or k (next o c) 0) (omega arith)
      go false e =
          let l = ltb-false (get_or k c 0) (get_or k (next o c) 0) e in
          let m : get_or k (next o c) 0 < get_or k c 0 = ⊎_elim (λ q. absurd (ends-apart o k w c h (sym q))) (λ m. m) (eq-or-lt_of_le l) in
          ap (window o k) (rep-no o k w c e)
          ∙ ap₂ (λ (a b : ℕ). pair_of a b) (mate-from o k w.closed c h) (mate-to o k w.closed c h)
          ∙ ordered-down (get_or k c 0) (get_or k (next o c) 0) m

  good : verdict (edge_tests o k) ≡ Good
  good = sym (closed-good o k w.closed)

  pub place-is-rank : (c : ℕ) → c < length k → get_or (edge_list o k) (rank o k c) [] ≡ edge o k c
  unfolding rank rep
  place-is-rank c h =
      let r = rep-is o k w c h in
      ap (λ (l : List (List ℕ)). get_or l (rank o k c) []) (all-rise o k good) ∙ at-rise (length k) (rep o k c) r.0 r.1 ∙ rep-window c h

  -- so the list is as long as there are edges, which is half the corners
  pub length-edges : length (edge_list o k) + length (edge_list o k) ≡ length k
  length-edges = let e = length-list o k good in let h = halves o k w in omega arith
