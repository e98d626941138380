-- Laws of the second pass: what the loops that write have written after so many turns. Assumes nothing.
use Rattle.std.specs.Prelude.{Ok, Err}
use Rattle.std.specs.Prelude.{◌≡◌, refl, List, [], ◌∷◌, ◌++◌, ℕ, zero, suc, ◌+◌, ◌-◌, ◌*◌, ◌<◌, ◌≤◌, length, set, Float}
use Rattle.std.proofs.Common.{sym, ◌∙◌, ap, ap₂, subst, append-nil, add-zero, add-suc, le_of_suc-le-suc, add-one, arith, length-append, set-set}
use Rattle.std.proofs.lemmas.List.Edits.{sets}
use Rattle.slices.specs.Lists.{over, sets-push, sets-append, sets_over}
use Rattle.rule.specs.Flat.{flat, ends, offsets_of, flat_append, flat-one, ends-append, length-offsets}
use Rattle.words.specs.Words.{word_at}
use Rattle.panel.specs.Filed.{Filed}
use Rattle.panel.specs.Filed.{Fine, Refused}
use Rattle.panel.specs.Format.{run, faces_from}
use Rattle.panel.specs.Laws.{length_run, length-faces, flat-next}

-- ---- items of one size

run-last : {A : Type 0} (g : ℕ → A) (size at i : ℕ) → run g size at (suc i) ≡ run g size at i ++ (g (at + size * i) ∷ [])
unfolding run
run-last {A} g size at zero = let e : at ≡ at + size * 0 = omega arith in ap (λ (x : ℕ). g x ∷ []) e
run-last {A} g size at (suc i) =
    let e : at + size + size * i ≡ at + size * suc i = omega arith in
    ap (λ (l : List A). g at ∷ l) (run-last g size (at + size) i ∙ ap (λ (x : ℕ). run g size (at + size) i ++ (g x ∷ [])) e)

pub run_more : {A : Type 0} (g : ℕ → A) (size at i : ℕ) → run g size at (i + 1) ≡ run g size at i ++ (g (at + size * i) ∷ [])
run_more g size at i = ap (run g size at) (add-one i) ∙ run-last g size at i

-- one item more is stored
pub store-more :
    {A : Type 0} (g : ℕ → A) (size at k i : ℕ) (old o : List A) (x : A) → o ≡ sets old k (run g size at i) → x ≡ g (at + size * i) →
    set o (k + i) x ≡ sets old k (run g size at (i + 1))
store-more {A} g size at k i old o x e q =
    let n : k + i ≡ k + length (run g size at i) = omega (arith, length_run g size at i) in
    ap₂ (λ (l : List A) (j : ℕ). set l j x) e n
    ∙ sets-push old k (run g size at i) x
    ∙ ap (λ (y : A). sets old k (run g size at i ++ (y ∷ []))) q
    ∙ ap (sets old k) (sym (run_more g size at i))

pub store-front :
    {A : Type 0} (g : ℕ → A) (size at i : ℕ) (old o : List A) (x : A) → o ≡ sets old 0 (run g size at i) → x ≡ g (at + size * i) →
    set o i x ≡ sets old 0 (run g size at (i + 1))
store-front {A} g size at i old o x e q =
    let n : i ≡ 0 + i = omega arith in
    ap (λ (j : ℕ). set o j x) n ∙ store-more g size at 0 i old o x e q

pub store-none : {A : Type 0} (g : ℕ → A) (size at k : ℕ) (old : List A) → old ≡ sets old k (run g size at 0)
unfolding run
store-none g size at k old = refl

-- ---- faces

-- the byte at which face i begins
abbrev pub face_at : List ℕ → ℕ → ℕ → ℕ
face_at s at i = at + 4 * i + 4 * length (flat (faces_from s at i))

faces-last :
    (s : List ℕ) (at i : ℕ) → faces_from s at (suc i) ≡ faces_from s at i ++ (run (word_at s) 4 (face_at s at i + 4) (word_at s (face_at s at i)) ∷ [])
unfolding faces_from flat
faces-last s at zero =
    let e : at ≡ face_at s at 0 = omega arith in
    ap (λ (x : ℕ). run (word_at s) 4 (x + 4) (word_at s x) ∷ []) e
faces-last s at (suc i) =
    let n : ℕ = at + 4 + 4 * word_at s at in
    let e : face_at s n i ≡ face_at s at (suc i) = omega (arith, flat-next s at i) in
    ap (λ (l : List (List ℕ)). run (word_at s) 4 (at + 4) (word_at s at) ∷ l)
    (faces-last s n i ∙ ap (λ (x : ℕ). faces_from s n i ++ (run (word_at s) 4 (x + 4) (word_at s x) ∷ [])) e)

faces-more :
    (s : List ℕ) (at i : ℕ) → faces_from s at (i + 1) ≡ faces_from s at i ++ (run (word_at s) 4 (face_at s at i + 4) (word_at s (face_at s at i)) ∷ [])
faces-more s at i = ap (faces_from s at) (add-one i) ∙ faces-last s at i

flat-more : (s : List ℕ) (at i : ℕ) → flat (faces_from s at (i + 1)) ≡ flat (faces_from s at i) ++ run (word_at s) 4 (face_at s at i + 4) (word_at s (face_at s at i))
flat-more s at i =
    let f : List ℕ = run (word_at s) 4 (face_at s at i + 4) (word_at s (face_at s at i)) in
    ap flat (faces-more s at i) ∙ flat_append (faces_from s at i) (f ∷ []) ∙ ap (λ (l : List ℕ). flat (faces_from s at i) ++ l) (flat-one f)

sum_more : (s : List ℕ) (at i : ℕ) → length (flat (faces_from s at (i + 1))) ≡ length (flat (faces_from s at i)) + word_at s (face_at s at i)
sum_more s at i =
    let f : List ℕ = run (word_at s) 4 (face_at s at i + 4) (word_at s (face_at s at i)) in
    ap length (flat-more s at i) ∙ length-append (flat (faces_from s at i)) f
    ∙ ap (λ (m : ℕ). length (flat (faces_from s at i)) + m) (length_run (word_at s) 4 (face_at s at i + 4) (word_at s (face_at s at i)))

-- fewer faces have no more corners
sum-le : (s : List ℕ) (at i n : ℕ) → i ≤ n → length (flat (faces_from s at i)) ≤ length (flat (faces_from s at n))
unfolding faces_from flat
sum-le s at zero n h = omega arith
sum-le s at (suc i) zero h = absurd (omega arith)
sum-le s at (suc i) (suc n) h =
    let m : ℕ = at + 4 + 4 * word_at s at in
    omega (arith, sum-le s m i n (le_of_suc-le-suc h), flat-next s at i, flat-next s at n)

-- faces that can be read, and that have room
pub record Placed (s : List ℕ) (at n : ℕ) (o k : List ℕ) : Type 0 where
  pub bytes : at + 4 * n + 4 * length (flat (faces_from s at n)) ≤ length s
  pub offsets : n + 1 ≤ length o
  pub corners : length (flat (faces_from s at n)) ≤ length k
  pub few : length (flat (faces_from s at n)) ≤ 1200

pub record PutFaces (fs : List (List ℕ)) (o k o' k' : List ℕ) : Type 0 where
  pub offsets : o' ≡ sets o 0 (offsets_of fs)
  pub corners : k' ≡ sets k 0 (flat fs)

-- the first i faces are written; the next begins at the byte `at`, and its corners go to the place `sum`
pub record Putting (s : List ℕ) (from : ℕ) (o k : List ℕ) (i at sum : ℕ) (o' k' : List ℕ) : Type 0 where
  pub put : PutFaces (faces_from s from i) o k o' k'
  pub place : at ≡ face_at s from i
  pub sums : sum ≡ length (flat (faces_from s from i))

-- before the first, with the leading offset written
pub putting-none : (s : List ℕ) (from : ℕ) (o k : List ℕ) → Putting s from (set o 0 0) k 0 from 0 (set o 0 0) k
unfolding faces_from flat offsets_of ends
putting-none s from o k = record { put = record { offsets = sym (set-set o 0 0 0); corners = refl }; place = omega arith; sums = refl }

-- after the last
pub putting-all :
    (s : List ℕ) (from : ℕ) (o k : List ℕ) {i n at sum : ℕ} {o' k' : List ℕ} → Putting s from (set o 0 0) k i at sum o' k' → i ≡ n →
    PutFaces (faces_from s from n) o k o' k'
unfolding offsets_of
putting-all s from o k {i} {n} w e =
    record {
      offsets = w.put.offsets ∙ ap (λ (l : List ℕ). sets l 1 (ends 0 (faces_from s from i))) (set-set o 0 0 0) ∙ ap (λ (m : ℕ). sets o 0 (offsets_of (faces_from s from m))) e;
      corners = w.put.corners ∙ ap (λ (m : ℕ). sets k 0 (flat (faces_from s from m))) e;
    }

-- what the next face asks for
pub record Next (s : List ℕ) (o k : List ℕ) (i at sum : ℕ) : Type 0 where
  pub bytes : at + 4 + 4 * word_at s at ≤ length s
  pub offsets : i + 1 < length o
  pub corners : sum + word_at s at ≤ length k
  pub few : sum + word_at s at ≤ 1200

pub next-room :
    {s : List ℕ} {from n : ℕ} {o k o₀ k₀ : List ℕ} {i at sum : ℕ} {o' k' : List ℕ} → Placed s from n o k → Putting s from o₀ k₀ i at sum o' k' → i < n →
    Next s o k i at sum
next-room {s} {from} {n} {o} {k} {o₀} {k₀} {i} {at} {sum} p w h =
    let l = sum-le s from (i + 1) n (omega arith) in
    let m = sum_more s from i in
    let e : word_at s at ≡ word_at s (face_at s from i) = ap (word_at s) w.place in
    record {
      bytes = omega (arith, l, m, e, p.bytes, w.place);
      offsets = omega (arith, p.offsets);
      corners = omega (arith, l, m, e, p.corners, w.sums);
      few = omega (arith, l, m, e, p.few, w.sums);
    }

pub putting-more :
    {s : List ℕ} {from : ℕ} {o k : List ℕ} {i at sum : ℕ} {o' k' : List ℕ} (a : ℕ) (k'' : List ℕ) → Putting s from o k i at sum o' k' → a ≡ word_at s at →
    k'' ≡ sets k' sum (run (word_at s) 4 (at + 4) a) → Putting s from o k (i + 1) (at + (4 + 4 * a)) (sum + a) (set o' (i + 1) (sum + a)) k''
unfolding offsets_of ends
putting-more {s} {from} {o} {k} {i} {at} {sum} {o'} {k'} a k'' w e q =
    let fs : List (List ℕ) = faces_from s from i in
    let f : List ℕ = run (word_at s) 4 (face_at s from i + 4) (word_at s (face_at s from i)) in
    let m = sum_more s from i in
    let g : a ≡ word_at s (face_at s from i) = e ∙ ap (word_at s) w.place in
    let lf : length f ≡ word_at s (face_at s from i) = length_run (word_at s) 4 (face_at s from i + 4) (word_at s (face_at s from i)) in
    let lo : i + 1 ≡ 0 + length (offsets_of fs) = omega (arith, length-offsets fs, length-faces s from i) in
    let v : sum + a ≡ 0 + length (flat fs) + length f = omega (arith, w.sums) in
    let z : sum ≡ 0 + length (flat fs) = omega (arith, w.sums) in
    record {
      put = record {
        offsets =
            ap₂ (λ (l : List ℕ) (j : ℕ). set l j (sum + a)) w.put.offsets lo
            ∙ sets-push o 0 (offsets_of fs) (sum + a)
            ∙ ap (λ (x : ℕ). sets o 0 (offsets_of fs ++ (x ∷ []))) v
            ∙ ap (λ (l : List ℕ). sets o 0 (0 ∷ l)) (sym (ends-append 0 fs (f ∷ [])))
            ∙ ap (λ (l : List (List ℕ)). sets o 0 (offsets_of l)) (sym (faces-more s from i));
        corners =
            q
            ∙ ap₂ (λ (x y : ℕ). sets k' sum (run (word_at s) 4 (x + 4) y)) w.place g
            ∙ ap₂ (λ (l : List ℕ) (j : ℕ). sets l j f) w.put.corners z
            ∙ sets-append k 0 (flat fs) f
            ∙ ap (sets k 0) (sym (flat-more s from i));
      };
      place = omega (arith, m, g, w.place);
      sums = omega (arith, m, g, w.sums);
    }

-- the steps of a checked file
abbrev pub step_count : Filed → ℕ
step_count (Ok h) = h.steps
step_count (Err r) = 0
