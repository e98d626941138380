-- Laws of a face cut into triangles, from the parts of the cut, that no proof of rule calls. Assumes nothing.
use Rattle.std.specs.Prelude.{◌≡◌, Bool, true, false, cond, List, [], ◌∷◌, ℕ, zero, suc, ◌+◌, ◌-◌, ◌<◌, ◌≤◌, length, get_or, set, take, drop, Float}
use Rattle.std.proofs.Math.Path.{refl}
use Rattle.std.proofs.Common.{sym, ◌∙◌, ap, subst, arith}
use Rattle.std.proofs.lemmas.List.Edits.{sets}
use Rattle.std.specs.Float.Ieee.{lt}
use borrow.Author.Tests.{ne_eqb}
use Rattle.slices.specs.Lists.{each}
use Rattle.point.specs.Vector.{sub_p, mag_sq_p}
use Rattle.point.specs.declared.Point.{Point}
use Rattle.faces.specs.Face.{point_at, InReach}
use Rattle.mesh.specs.Mesh.{faces, start, end, run}
use Rattle.mesh.specs.Edges.{Faced}
use Rattle.picks.specs.Runs.{run_of}
use Rattle.rule.specs.Rule.{diagonal, agree, cut_of, triple, triangle_of, triangles}
use Rattle.rule.specs.Triangles.{three_all, length-triangle}
use Rattle.rule.specs.Wrote.{Wrote, Room, Space, Ended, wrote_one, room-one, room-each}
use Rattle.rule.specs.declared.Cut.{Cut}
use Rattle.rule.specs.declared.Cut.TheVariants.{Fan, Other, Five}
use Rattle.rule.specs.declared.At.{At}
use Rattle.laws.specs.RuleWrote.{wrote-more}

pub agree-yes : (a b : Bool) → a ≡ true → b ≡ agree a b
agree-yes a b e = rw e

pub agree-no : (a b : Bool) → a ≡ false → b ≡ true → false ≡ agree a b
agree-no a b e f = rw (e, f)

pub agree-both : (a b : Bool) → a ≡ false → b ≡ false → true ≡ agree a b
agree-both a b e f = rw (e, f)

-- ---- which cut, from the parts as the code has them

pub diagonal-is :
    (x : List Float) (vs : List ℕ) (i j a b : ℕ) (p q d : Point) (r : Float) → a ≡ get_or vs i 0 → b ≡ get_or vs j 0 → p ≡ point_at x a → q ≡ point_at x b → d ≡ sub_p p q → r ≡ mag_sq_p d →
    r ≡ diagonal x vs i j
unfolding diagonal
diagonal-is x vs i j a b p q d r e f g h s t = t ∙ ap mag_sq_p (s ∙ rw (g, h, e, f))

module _ (shorter : Bool) (x : List Float) (vs : List ℕ) where
  pub cut-five : length vs ≡ 5 → Five ≡ cut_of shorter x vs
  unfolding cut_of
  cut-five e = rw e

  pub cut-fan : (length vs ≡ 5 → ⊥) → (length vs ≡ 4 → ⊥) → Fan ≡ cut_of shorter x vs
  unfolding cut_of
  cut-fan e f = rw (ne_eqb (length vs) 4 f, ne_eqb (length vs) 5 e)

  cut-four : (t : Bool) → length vs ≡ 4 → t ≡ agree shorter (lt (diagonal x vs 0 2) (diagonal x vs 1 3)) → cond t Fan Other ≡ cut_of shorter x vs
  unfolding cut_of
  cut-four t e f = rw (e, f)

  quad : (p q : Float) (t : Bool) → length vs ≡ 4 → p ≡ diagonal x vs 0 2 → q ≡ diagonal x vs 1 3 → t ≡ agree shorter (lt p q) → cond t Fan Other ≡ cut_of shorter x vs
  quad p q t e g h f = cut-four t e (f ∙ rw (g, h))

  pub cut-one : (p q : Float) (t : Bool) → length vs ≡ 4 → p ≡ diagonal x vs 0 2 → q ≡ diagonal x vs 1 3 → t ≡ agree shorter (lt p q) → t ≡ true → Fan ≡ cut_of shorter x vs
  cut-one p q t e g h f z = ap (λ (b : Bool). cond b Fan Other) (sym z) ∙ quad p q t e g h f

  pub cut-other : (p q : Float) (t : Bool) → length vs ≡ 4 → p ≡ diagonal x vs 0 2 → q ≡ diagonal x vs 1 3 → t ≡ agree shorter (lt p q) → t ≡ false → Other ≡ cut_of shorter x vs
  cut-other p q t e g h f z = ap (λ (b : Bool). cond b Fan Other) (sym z) ∙ quad p q t e g h f

-- ---- which corners

pub fan-is : (q : Cut) (vs r : List ℕ) (j : ℕ) → q ≡ Fan → r ≡ triple vs 0 (j + 1) (j + 2) → r ≡ triangle_of q vs j
unfolding triangle_of
fan-is q vs r j e f = rw e f

pub other-first : (q : Cut) (vs r : List ℕ) (j : ℕ) → q ≡ Other → j ≡ 0 → r ≡ triple vs 1 2 3 → r ≡ triangle_of q vs j
unfolding triangle_of
other-first q vs r j e z f = rw (e, z) f

other_from : (vs : List ℕ) (j : ℕ) → (j ≡ 0 → ⊥) → triple vs 1 3 0 ≡ triangle_of Other vs j
unfolding triangle_of
other_from vs zero n = absurd (n refl)
other_from vs (suc j) n = refl

pub other-second : (q : Cut) (vs r : List ℕ) (j : ℕ) → q ≡ Other → (j ≡ 0 → ⊥) → r ≡ triple vs 1 3 0 → r ≡ triangle_of q vs j
other-second q vs r j e n f = rw e (f ∙ other_from vs j n)

pub five-first : (q : Cut) (vs r : List ℕ) (j : ℕ) → q ≡ Five → j ≡ 0 → r ≡ triple vs 0 1 4 → r ≡ triangle_of q vs j
unfolding triangle_of
five-first q vs r j e z f = rw (e, z) f

pub five-second : (q : Cut) (vs r : List ℕ) (j : ℕ) → q ≡ Five → j ≡ 1 → r ≡ triple vs 1 2 4 → r ≡ triangle_of q vs j
unfolding triangle_of
five-second q vs r j e z f = rw (e, z) f

five-from : (vs : List ℕ) (j : ℕ) → (j ≡ 0 → ⊥) → (j ≡ 1 → ⊥) → triple vs 4 2 3 ≡ triangle_of Five vs j
unfolding triangle_of
five-from vs zero n m = absurd (n refl)
five-from vs (suc zero) n m = absurd (m refl)
five-from vs (suc (suc j)) n m = refl

pub five-third : (q : Cut) (vs r : List ℕ) (j : ℕ) → q ≡ Five → (j ≡ 0 → ⊥) → (j ≡ 1 → ⊥) → r ≡ triple vs 4 2 3 → r ≡ triangle_of q vs j
five-third q vs r j e n m f = rw e (f ∙ five-from vs j n m)

-- ---- written

pub wrote-three :
    {o c o' : List ℕ} {a a' : At} (t : List ℕ) → length t ≡ 3 → Ended o a 3 o' a' →
    Wrote o c a (t ∷ []) o' (set (set (set c a.cors (get_or t 0 0)) (a.cors + 1) (get_or t 1 0)) (a.cors + 2) (get_or t 2 0)) a'
wrote-three {o} {c} {o'} {a} {a'} t e p =
    let u : a.cors + 1 ≡ suc a.cors = omega arith in
    let v : a.cors + 2 ≡ suc (suc a.cors) = omega arith in
    wrote_one t e p (rw (u, v) (ap (sets c a.cors) (sym (three_all t e))))

module _ (shorter : Bool) (x : List Float) (vs : List ℕ) (q : Cut) (e : q ≡ cut_of shorter x vs) where
  all-by : triangles shorter x vs ≡ each (λ (i : ℕ). triangle_of q vs i ∷ []) (length vs - 2)
  unfolding triangles
  all-by = rw e refl

  pub triangles-room :
      {o c o' c' : List ℕ} {a a' : At} (j : ℕ) → j + 2 < length vs → Room o c a (triangles shorter x vs) → Wrote o c a (each (λ i. triangle_of q vs i ∷ []) j) o' c' a' → Space o' c' a' 3
  triangles-room {o} {c} {o'} {c'} {a} {a'} j h r w =
      room-one (triangle_of q vs j) (length-triangle q vs j)
      (room-each (λ (i : ℕ). triangle_of q vs i ∷ []) j (length vs - 2) (omega arith) (subst (Room o c a) all-by r) w)

  pub triangles-done :
      {o c o' c' : List ℕ} {a a' : At} (j : ℕ) → j ≡ length vs - 2 → Wrote o c a (each (λ i. triangle_of q vs i ∷ []) j) o' c' a' → Wrote o c a (triangles shorter x vs) o' c' a'
  triangles-done {o} {c} {o'} {c'} {a} {a'} j h w =
      subst (λ (fs : List (List ℕ)). Wrote o c a fs o' c' a') (ap (each (λ (i : ℕ). triangle_of q vs i ∷ [])) h ∙ sym all-by) w

pub triangles-more :
    {o c o' c' o'' c'' : List ℕ} {a a' a'' : At} (vs t : List ℕ) (q : Cut) (j : ℕ) → t ≡ triangle_of q vs j → Wrote o c a (each (λ i. triangle_of q vs i ∷ []) j) o' c' a' →
    Wrote o' c' a' (t ∷ []) o'' c'' a'' → Wrote o c a (each (λ i. triangle_of q vs i ∷ []) (j + 1)) o'' c'' a''
triangles-more {o} {c} {o'} {c'} {o''} {c''} {a} {a'} {a''} vs t q j e w v =
    wrote-more (λ (i : ℕ). triangle_of q vs i ∷ []) j w (subst (λ (f : List ℕ). Wrote o' c' a' (f ∷ []) o'' c'' a'') e v)

-- ---- the run of a face, as the code cuts it out

module _ (o k : List ℕ) (f lo hi : ℕ) (e : lo ≡ start o f) (g : hi ≡ end o f) where
  pub run_is : take (hi - lo) (drop lo k) ≡ run o k f
  run_is = rw (e, g)

  pub run-reach : (x : List Float) → Faced o k → InReach x k → f < faces o → InReach x (take (hi - lo) (drop lo k)) × (3 ≤ length (take (hi - lo) (drop lo k)))
  run-reach x s r h = let w = run_of o k x f s r h in rw run_is (w.reach, omega (arith, w.long, s.full f h))
