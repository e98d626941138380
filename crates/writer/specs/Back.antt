-- What is written is read back, and so different contents give different files. Assumes nothing.
use Rattle.std.specs.Prelude.{◌≡◌, Bool, true, cond, ℕ, suc, ◌+◌, ◌-◌, ◌*◌, ◌/◌, ◌<◌, ◌≤◌, T, eqb, Float}
use Rattle.std.proofs.Math.Path.{refl, sym, ap, ap₂}
use Rattle.std.proofs.Common.{◌∙◌}
use mathlib.Core.List.{List, [], ◌∷◌, ◌++◌, append_assoc, append-nil}
use native.Mathlib.Omega.{arith}
use Rattle.std.proofs.Math.ListN.{length, length-append}
use Rattle.std.specs.Float.Ieee.{fits}
use Rattle.std.specs.Float.{binary32}
use borrow.Author.Tests.{eq-eqb}
use Rattle.rule.specs.Flat.{flat}
use Rattle.steps.specs.declared.Step.{Step}
use Rattle.words.specs.Words.{word_at, whole_at}
use Rattle.parts.specs.Part.{Part}
use Rattle.parts.specs.Part.{Has, Stops}
use Rattle.parts.specs.Parts.{count_at, step_says, whole_says, items, section, faces}
use Rattle.panel.specs.Filed.{Filed}
use Rattle.panel.specs.Filed.{Fine, Refused}
use Rattle.panel.specs.Format.{settle, positions_at, faces_at, end_at, ending, checked, run, float_at, step_at, faces_from, Contents, contents, Reading, refused, holds, reading_as, reading}
use Rattle.writer.specs.File.{flat_map, step_words, float_words, face_words, file_words, bytes_all, file_of}
use Rattle.writer.specs.Bytes.{length-flat_map, length-bytes, word-at, whole_in}
use Rattle.writer.specs.Items.{All, StepFits, length-step, length_float, length-faces-words, steps-pass, steps_back, floats-back, items-whole, section-pass, count-pass, faces-pass, faces-back}

-- what a file can hold: the limits, whole positions, and numbers that are f32s
pub record Holdable (q : Contents) : Type 0 where
  pub few-steps : length q.steps ≤ 16
  pub steps-fit : All StepFits q.steps
  pub thirds : length q.coords ≡ 3 * (length q.coords / 3)
  pub few-positions : length q.coords / 3 ≤ 400
  pub coords-fit : All (λ x. T (fits binary32 x)) q.coords
  pub few-faces : length q.faces ≤ 400
  pub few-corners : length (flat q.faces) ≤ 1200

module _ (q : Contents) (k : Holdable q) where
  n : ℕ
  n = length q.steps

  v : ℕ
  v = length q.coords / 3

  m : ℕ
  m = length q.faces

  a : List ℕ
  a = flat_map step_words q.steps

  x : List ℕ
  x = flat_map float_words q.coords

  fs : List ℕ
  fs = flat_map face_words q.faces

  w : List ℕ
  w = file_words q

  s : List ℕ
  s = bytes_all w

  long-a : length a ≡ 4 * n
  unfolding n a
  long-a = length-flat_map step_words 4 q.steps length-step

  long-x : length x ≡ 3 * v
  unfolding v x
  long-x = let e = length-flat_map float_words 1 q.coords length_float in omega (arith, e, k.thirds)

  long-fs : length fs ≡ m + length (flat q.faces)
  unfolding m fs
  long-fs = length-faces-words q.faces

  -- where each part stands among the words
  at_n : w ≡ [] ++ ((n ∷ []) ++ (a ++ ((v ∷ x) ++ (m ∷ fs))))
  unfolding w n a v x m fs file_words
  at_n = refl

  at_a : w ≡ (n ∷ []) ++ (a ++ ((v ∷ x) ++ (m ∷ fs)))
  unfolding w n a v x m fs file_words
  at_a = refl

  at-v : w ≡ (n ∷ a) ++ ((v ∷ []) ++ (x ++ (m ∷ fs)))
  unfolding w n a v x m fs file_words
  at-v = refl

  at_x : w ≡ ((n ∷ a) ++ (v ∷ [])) ++ (x ++ (m ∷ fs))
  at_x = at-v ∙ sym (append_assoc (n ∷ a) (v ∷ []) (x ++ (m ∷ fs)))

  at-m : w ≡ (((n ∷ a) ++ (v ∷ [])) ++ x) ++ ((m ∷ []) ++ fs)
  at-m = at_x ∙ sym (append_assoc ((n ∷ a) ++ (v ∷ [])) x (m ∷ fs))

  at-fs : w ≡ ((((n ∷ a) ++ (v ∷ [])) ++ x) ++ (m ∷ [])) ++ (fs ++ [])
  at-fs = at-m ∙ sym (append_assoc (((n ∷ a) ++ (v ∷ [])) ++ x) (m ∷ []) fs) ∙ ap (λ (l : List ℕ). ((((n ∷ a) ++ (v ∷ [])) ++ x) ++ (m ∷ [])) ++ l) (sym (append-nil fs))

  -- at which bytes
  byte-v : 4 * length (n ∷ a) ≡ positions_at n
  byte-v = omega (arith, long-a)

  byte-x : 4 * length ((n ∷ a) ++ (v ∷ [])) ≡ positions_at n + 4
  byte-x = omega (arith, long-a, length-append (n ∷ a) (v ∷ []))

  byte-m : 4 * length (((n ∷ a) ++ (v ∷ [])) ++ x) ≡ faces_at n v
  byte-m = omega (arith, long-a, long-x, length-append (n ∷ a) (v ∷ []), length-append ((n ∷ a) ++ (v ∷ [])) x)

  byte-fs : 4 * length ((((n ∷ a) ++ (v ∷ [])) ++ x) ++ (m ∷ [])) ≡ faces_at n v + 4
  byte-fs = let e = byte-m in omega (arith, e, length-append (((n ∷ a) ++ (v ∷ [])) ++ x) (m ∷ []))

  long-s : length s ≡ end_at n v m (length (flat q.faces))
  unfolding s
  long-s =
      let e = byte-fs in
      let l = length-bytes w in
      let h = ap length at-fs ∙ length-append ((((n ∷ a) ++ (v ∷ [])) ++ x) ++ (m ∷ [])) (fs ++ []) ∙ ap (λ (l : List ℕ). length ((((n ∷ a) ++ (v ∷ [])) ++ x) ++ (m ∷ [])) + length l) (append-nil fs) in
      omega (arith, e, l, h, long-fs)

  -- a count that stands after some words
  counted : (pre post : List ℕ) (c at : ℕ) → w ≡ pre ++ ((c ∷ []) ++ post) → 4 * length pre ≡ at → (whole_at s at 4 ≡ true) × (word_at s at ≡ c)
  unfolding s
  counted pre post c at e p = (
    ap₂ (λ (y : List ℕ) (i : ℕ). whole_at (bytes_all y) i 4) e (sym p) ∙ whole_in pre (c ∷ []) post 4 (omega arith),
    ap₂ (λ (y : List ℕ) (i : ℕ). word_at (bytes_all y) i) e (sym p) ∙ word-at pre c post,
  )

  steps-part : section s 0 16 16 (step_says s) ≡ Has n
  unfolding s n a
  steps-part =
      let c = counted [] (a ++ ((v ∷ x) ++ (m ∷ fs))) n 0 at_n refl in
      section-pass s 0 16 16 n (step_says s) c.0 c.1 k.few-steps (steps-pass w q.steps (n ∷ []) ((v ∷ x) ++ (m ∷ fs)) k.steps-fit at_a)

  positions-part : section s (positions_at n) 400 12 (whole_says s 12) ≡ Has v
  unfolding v
  positions-part =
      let c = counted (n ∷ a) (x ++ (m ∷ fs)) v (positions_at n) at-v byte-v in
      section-pass s (positions_at n) 400 12 v (whole_says s 12) c.0 c.1 k.few-positions
      (items-whole s 12 (positions_at n + 4) v (omega (arith, long-s)))

  faces-count : count_at s (faces_at n v) 400 ≡ Has m
  unfolding m
  faces-count =
      let c = counted (((n ∷ a) ++ (v ∷ [])) ++ x) fs m (faces_at n v) at-m byte-m in
      count-pass s (faces_at n v) 400 m c.0 c.1 k.few-faces

  faces-part : faces s (faces_at n v + 4) 0 m ≡ Has (length (flat q.faces))
  unfolding s m fs
  faces-part =
      let z : 0 + length (flat q.faces) ≡ length (flat q.faces) = omega arith in
      ap (λ (i : ℕ). faces s i 0 m) (sym byte-fs)
      ∙ faces-pass w q.faces ((((n ∷ a) ++ (v ∷ [])) ++ x) ++ (m ∷ [])) [] 0 (omega (arith, k.few-corners)) at-fs
      ∙ ap Has z

  passes : checked s ≡ Fine n v m (length (flat q.faces))
  unfolding checked ending
  passes = rw (steps-part, positions-part, faces-count, faces-part, eq-eqb (length s) (end_at n v m (length (flat q.faces))) long-s) refl

  same : contents s n v m ≡ q
  unfolding contents s n a v x m fs
  same =
      let e : 3 * v ≡ length q.coords = sym k.thirds in
      let f : run (step_at s) 16 4 n ≡ q.steps = steps_back w q.steps (n ∷ []) ((v ∷ x) ++ (m ∷ fs)) k.steps-fit at_a in
      let g : faces_from s (faces_at n v + 4) m ≡ q.faces = ap (λ (i : ℕ). faces_from s i m) (sym byte-fs) ∙ faces-back w q.faces ((((n ∷ a) ++ (v ∷ [])) ++ x) ++ (m ∷ [])) [] at-fs in
      let h : run (float_at s) 4 (positions_at n + 4) (3 * v) ≡ q.coords = ap₂ (λ (i j : ℕ). run (float_at s) 4 i j) (sym byte-x) e ∙ floats-back w q.coords ((n ∷ a) ++ (v ∷ [])) (m ∷ fs) k.coords-fit at_x in
      ap₂ (λ (l : List Step) (r : List (List ℕ)). record { steps = l; faces = r; coords = run (float_at s) 4 (positions_at n + 4) (3 * v) }) f g
      ∙ ap (λ (l : List Float). record { steps = q.steps; faces = q.faces; coords = l }) h

  -- reading what was written gives back every item
  pub read-written : reading (file_of q) ≡ holds q
  unfolding reading file_of s w
  read-written = ap (reading_as s) passes ∙ ap holds same

abbrev held_in : Contents → Reading → Contents
held_in d (refused number place) = d
held_in d (holds q) = q

-- contents that give the same bytes are the same
pub same-file : (p q : Contents) → Holdable p → Holdable q → file_of p ≡ file_of q → p ≡ q
same-file p q h k e = ap (held_in p) (sym (read-written p h) ∙ ap reading e ∙ read-written q k)
