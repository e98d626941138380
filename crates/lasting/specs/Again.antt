-- From a mesh that passes to its shell, and from the shell of a result back to a mesh that passes. Assumes nothing.
use Rattle.std.specs.Prelude.{◌≡◌, refl, false, not, List, ℕ, zero, suc, ◌+◌, ◌*◌, ◌%◌, ◌≤◌, length, get_or, eqb, Float}
use Rattle.std.proofs.Common.{sym, ◌∙◌, ap, subst, le_refl, le_of_eq, lt_irrefl, arith, le-ltb, ne_eqb, eq-eqb}
use Rattle.std.proofs.lemmas.Bool.{lt-leb}
use Rattle.slices.specs.First.{first, none}
use Rattle.point.specs.Finite.{not_finite}
use Rattle.mesh.specs.Mesh.{faces, start}
use Rattle.mesh.specs.Tests.{verdict, falls, wrong_offsets, wrong_shape, too_many, short, outside, repeats, size_tests, face_tests, tests, tests-good, by-groups, passed, pass, clear}
use Rattle.mesh.specs.Shape.{Shaped}
use Rattle.mesh.specs.Edges.{reached}
use Rattle.mesh.specs.Closed.{surface, closed-good}
use Rattle.mesh.specs.Verdict.{Good}
use Rattle.rule.specs.Named.{positions}
use Rattle.rule.specs.Flat.{flat, offsets_of, length-offsets}
use Rattle.engine.specs.Result.{room_tests, finite_tests}
use Rattle.closed.specs.Keeps.{Shell}

-- ---- a mesh that passes is a shell
pub shell : (o k : List ℕ) (x : List Float) → verdict (tests o k x) ≡ Good → Shell o k (positions x)
shell o k x e =
    record {
      surface = surface o k x e;
      inside = λ c h. let w : get_or k c 0 * 3 + 3 ≤ length x = reached o k x (tests-good o k x e).1.0 c h in omega arith;
    }

-- ---- 1 and 2
pub by_last : (o : List ℕ) (n : ℕ) → (length o ≡ 0 → ⊥) → start o 0 ≡ 0 → faces o ≤ first (falls o) (faces o) → not (eqb (start o (faces o)) n) ≡ wrong_offsets o n
unfolding wrong_offsets
by_last o n a b c = simp (ne_eqb _ _ a, eq-eqb _ _ b, le-ltb _ _ c)

offsets-right : (o : List ℕ) (n : ℕ) → Shaped o n → wrong_offsets o n ≡ false
offsets-right o n s =
    sym (by_last o n (λ e. let w = s.some in lt_irrefl 0 (omega arith)) s.from (le_of_eq (none (falls o) (faces o) (λ f h. le-ltb _ _ (s.rises f h)))))
    ∙ ap not (eq-eqb _ _ s.last)

shape-right : (o : List ℕ) (n m : ℕ) → Shaped o n → m % 3 ≡ 0 → (i : ℕ) → wrong_shape o n m i ≡ false
unfolding wrong_shape
shape-right o n m s e zero = offsets-right o n s
shape-right o n m s e (suc i) = ap not (eq-eqb (m % 3) 0 e)

pub size-again : (o : List ℕ) (n m : ℕ) → Shaped o n → m % 3 ≡ 0 → 3 ≤ first (too_many (faces o) n m) 3 → Good ≡ verdict (size_tests o n m)
unfolding size_tests
size-again o n m s e l = pass _ _ 2 (none (wrong_shape o n m) 2 (λ i h. shape-right o n m s e i)) (le_refl _) (pass _ _ _ refl l clear)

-- ---- 4 to 7
pub face-again : (o k : List ℕ) (x : List Float) → Shell o k (positions x) → length x ≤ first (not_finite x) (length x) → Good ≡ verdict (face_tests o k x)
unfolding face_tests
face-again o k x s l =
    pass _ _ _ refl l
    (pass _ _ (faces o) (none (short o) (faces o) (λ f h. le-ltb _ _ (s.surface.full f h))) (le_refl _)
    (pass _ _ (length k) (none (outside k (positions x)) (length k) (λ c h. lt-leb _ _ (s.inside c h))) (le_refl _)
    (pass _ _ (faces o) (none (repeats o k) (faces o) s.surface.unlike) (le_refl _) clear)))

-- ---- all of them, of a result that passes 12 and 14
pub again :
    (fs : List (List ℕ)) (xs : List Float) (lo lc lx : ℕ) → Shell (offsets_of fs) (flat fs) (positions xs) → 3 * positions xs ≡ length xs →
    verdict (room_tests (length fs) (length (flat fs)) (length xs) lo lc lx) ≡ Good → verdict (finite_tests xs) ≡ Good →
    verdict (tests (offsets_of fs) (flat fs) xs) ≡ Good
unfolding room_tests finite_tests
again fs xs lo lc lx s w r f =
    let n : length fs ≡ faces (offsets_of fs) = omega (arith, length-offsets fs) in
    let l : 3 ≤ first (too_many (faces (offsets_of fs)) (length (flat fs)) (length xs)) 3 = subst (λ (i : ℕ). 3 ≤ first (too_many i (length (flat fs)) (length xs)) 3) n (passed _ _ r).0 in
    by-groups (offsets_of fs) (flat fs) xs
    ∙ rw (
      ← size-again (offsets_of fs) (length (flat fs)) (length xs) s.surface.shaped (omega arith) l,
      ← face-again (offsets_of fs) (flat fs) xs s (passed _ _ f).0,
    ) (sym (closed-good (offsets_of fs) (flat fs) s.surface.closed))
