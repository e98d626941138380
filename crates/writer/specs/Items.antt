-- Items written one after the other are read back: steps, coordinates, corners, faces. Assumes nothing.
use Rattle.std.specs.Prelude.{◌≡◌, refl, Bool, true, cond, List, [], ◌∷◌, ◌++◌, ℕ, zero, suc, ◌+◌, ◌-◌, ◌*◌, ◌<◌, ◌≤◌, length, get_or, T, leb, Float}
use Rattle.std.proofs.Common.{sym, ◌∙◌, ap, ap₂, append_assoc, append-nil, arith, length-append, le-leb}
use Rattle.std.specs.Float.Ieee.{fits, of_bits, to_bits}
use Rattle.std.specs.Float.{binary32}
use Rattle.std.specs.Float.Ieee.Bits.{of_bits-to_bits}
use Rattle.rule.specs.Flat.{flat}
use Rattle.operators.specs.Number.{Number}
use Rattle.std.specs.Prelude.{Some, None}
use Rattle.steps.specs.declared.Step.{Step}
use Rattle.steps.specs.declared.Step.TheVariants.{Ambo, Chamfer, Dual, Gyro, Kis, Propellor, Quinto, Reflect, Reverse, Whirl, Triangulate}
use Rattle.steps.specs.Steps.{code_of}
use Rattle.words.specs.Words.{word_at, whole_at}
use Rattle.parts.specs.Part.{Part}
use Rattle.parts.specs.Part.{Has, Stops}
use Rattle.parts.specs.StepWords.{one_of, takes_ratio, takes_height, good_step, step_of, step_with}
use Rattle.parts.specs.Parts.{and_then, count_at, step_says, whole_says, items, section, faces}
use Rattle.panel.specs.Format.{run, float_at, step_at, faces_from}
use Rattle.writer.specs.File.{flat_map, ratio_in, height_in, flag_of, bits_in, step_words, float_words, face_words, bytes_all}
use Rattle.writer.specs.Bytes.{length-flat_map, length-bytes, word-at, word_in, whole_in}

abbrev pub All : {A : Type 0} → (A → Type 0) → List A → Type 0
All P [] = Unit
All P (x ∷ xs) = P x × All P xs

-- ---- any items

first-is : {A : Type 0} (h : A → List ℕ) (w pre post : List ℕ) (x : A) (l : List A) → w ≡ pre ++ (flat_map h (x ∷ l) ++ post) → w ≡ pre ++ (h x ++ (flat_map h l ++ post))
unfolding flat_map
first-is h w pre post x l e = e ∙ ap (λ (y : List ℕ). pre ++ y) (append_assoc (h x) (flat_map h l) post)

rest-is : {A : Type 0} (h : A → List ℕ) (w pre post : List ℕ) (x : A) (l : List A) → w ≡ pre ++ (flat_map h (x ∷ l) ++ post) → w ≡ (pre ++ h x) ++ (flat_map h l ++ post)
rest-is h w pre post x l e = first-is h w pre post x l e ∙ sym (append_assoc pre (h x) (flat_map h l ++ post))

items_back :
    {A : Type 0} (P : A → Type 0) (say : ℕ → Part) (h : A → List ℕ) (k : ℕ) (w : List ℕ) → ((x : A) → length (h x) ≡ k) →
    ((x : A) (pre post : List ℕ) → P x → w ≡ pre ++ (h x ++ post) → say (4 * length pre) ≡ Has 0) →
    (l : List A) (pre post : List ℕ) → All P l → w ≡ pre ++ (flat_map h l ++ post) → items say (4 * k) (4 * length pre) (length l) ≡ Has 0
unfolding items
items_back P say h k w n f [] pre post a e = refl
items_back P say h k w n f (x ∷ l) pre post a e =
    let q : 4 * length pre + 4 * k ≡ 4 * length (pre ++ h x) = omega (arith, n x, length-append pre (h x)) in
    ap (λ (y : Part). and_then y (λ _. items say (4 * k) (4 * length pre + 4 * k) (length l))) (f x pre (flat_map h l ++ post) a.0 (first-is h w pre post x l e))
    ∙ ap (λ (i : ℕ). items say (4 * k) i (length l)) q
    ∙ items_back P say h k w n f l (pre ++ h x) post a.1 (rest-is h w pre post x l e)

run-back :
    {A : Type 0} (P : A → Type 0) (g : ℕ → A) (h : A → List ℕ) (k : ℕ) (w : List ℕ) → ((x : A) → length (h x) ≡ k) →
    ((x : A) (pre post : List ℕ) → P x → w ≡ pre ++ (h x ++ post) → g (4 * length pre) ≡ x) →
    (l : List A) (pre post : List ℕ) → All P l → w ≡ pre ++ (flat_map h l ++ post) → run g (4 * k) (4 * length pre) (length l) ≡ l
unfolding run
run-back P g h k w n f [] pre post a e = refl
run-back {A} P g h k w n f (x ∷ l) pre post a e =
    let q : 4 * length pre + 4 * k ≡ 4 * length (pre ++ h x) = omega (arith, n x, length-append pre (h x)) in
    ap₂ (λ (y : A) (t : List A). y ∷ t) (f x pre (flat_map h l ++ post) a.0 (first-is h w pre post x l e))
    (ap (λ (i : ℕ). run g (4 * k) i (length l)) q ∙ run-back P g h k w n f l (pre ++ h x) post a.1 (rest-is h w pre post x l e))

-- ---- a step

abbrev pub NumberFits : Number → Type 0
NumberFits None = Unit
NumberFits (Some x) = T (fits binary32 x)

abbrev pub StepFits : Step → Type 0
StepFits s = NumberFits (ratio_in s) × NumberFits (height_in s)

abbrev flags : Step → ℕ
flags s = flag_of (ratio_in s) + 2 * flag_of (height_in s)

good-back : (s : Step) → good_step (code_of s) (flags s) (bits_in (ratio_in s)) (bits_in (height_in s)) ≡ true
unfolding good_step takes_ratio takes_height one_of
good-back (Ambo None) = refl
good-back (Ambo (Some x)) = refl
good-back (Chamfer None) = refl
good-back (Chamfer (Some x)) = refl
good-back Dual = refl
good-back (Gyro None None) = refl
good-back (Gyro None (Some y)) = refl
good-back (Gyro (Some x) None) = refl
good-back (Gyro (Some x) (Some y)) = refl
good-back (Kis None) = refl
good-back (Kis (Some y)) = refl
good-back (Propellor None) = refl
good-back (Propellor (Some x)) = refl
good-back (Quinto None) = refl
good-back (Quinto (Some y)) = refl
good-back Reflect = refl
good-back Reverse = refl
good-back (Whirl None None) = refl
good-back (Whirl None (Some y)) = refl
good-back (Whirl (Some x) None) = refl
good-back (Whirl (Some x) (Some y)) = refl
good-back Triangulate = refl

float_back : (x : Float) → T (fits binary32 x) → of_bits binary32 (to_bits binary32 x) ≡ x
float_back x h = of_bits-to_bits binary32 x h

step_back : (s : Step) → StepFits s → step_with (code_of s) (flags s) (bits_in (ratio_in s)) (bits_in (height_in s)) ≡ s
unfolding step_with step_of
step_back (Ambo None) f = refl
step_back (Ambo (Some x)) f = ap (λ (y : Float). Ambo (Some y)) (float_back x f.0)
step_back (Chamfer None) f = refl
step_back (Chamfer (Some x)) f = ap (λ (y : Float). Chamfer (Some y)) (float_back x f.0)
step_back Dual f = refl
step_back (Gyro None None) f = refl
step_back (Gyro None (Some y)) f = ap (λ (z : Float). Gyro None (Some z)) (float_back y f.1)
step_back (Gyro (Some x) None) f = ap (λ (z : Float). Gyro (Some z) None) (float_back x f.0)
step_back (Gyro (Some x) (Some y)) f = ap₂ (λ (z w : Float). Gyro (Some z) (Some w)) (float_back x f.0) (float_back y f.1)
step_back (Kis None) f = refl
step_back (Kis (Some y)) f = ap (λ (z : Float). Kis (Some z)) (float_back y f.1)
step_back (Propellor None) f = refl
step_back (Propellor (Some x)) f = ap (λ (z : Float). Propellor (Some z)) (float_back x f.0)
step_back (Quinto None) f = refl
step_back (Quinto (Some y)) f = ap (λ (z : Float). Quinto (Some z)) (float_back y f.1)
step_back Reflect f = refl
step_back Reverse f = refl
step_back (Whirl None None) f = refl
step_back (Whirl None (Some y)) f = ap (λ (z : Float). Whirl None (Some z)) (float_back y f.1)
step_back (Whirl (Some x) None) f = ap (λ (z : Float). Whirl (Some z) None) (float_back x f.0)
step_back (Whirl (Some x) (Some y)) f = ap₂ (λ (z w : Float). Whirl (Some z) (Some w)) (float_back x f.0) (float_back y f.1)
step_back Triangulate f = refl

pub length-step : (s : Step) → length (step_words s) ≡ 4
unfolding step_words
length-step s = refl

-- the words of a step that stands in a file
pub record StepRead (s : List ℕ) (at : ℕ) (x : Step) : Type 0 where
  pub whole : whole_at s at 16 ≡ true
  pub code : word_at s at ≡ code_of x
  pub flag : word_at s (at + 4) ≡ flags x
  pub ratio : word_at s (at + 8) ≡ bits_in (ratio_in x)
  pub height : word_at s (at + 12) ≡ bits_in (height_in x)

step-read : (w : List ℕ) (x : Step) (pre post : List ℕ) → w ≡ pre ++ (step_words x ++ post) → StepRead (bytes_all w) (4 * length pre) x
unfolding step_words
step-read w x pre post e = rw e (record {
  whole = whole_in pre (step_words x) post 16 (omega arith);
  code = word-at pre (code_of x) _;
  flag = word_in pre (step_words x) post 1 (omega arith);
  ratio = word_in pre (step_words x) post 2 (omega arith);
  height = word_in pre (step_words x) post 3 (omega arith);
})

pub steps-pass :
    (w : List ℕ) (l : List Step) (pre post : List ℕ) → All StepFits l → w ≡ pre ++ (flat_map step_words l ++ post) →
    items (step_says (bytes_all w)) 16 (4 * length pre) (length l) ≡ Has 0
unfolding step_says
steps-pass w l pre post a e = items_back StepFits (step_says (bytes_all w)) step_words 4 w length-step one l pre post a e
  where
    one : (x : Step) (pre post : List ℕ) → StepFits x → w ≡ pre ++ (step_words x ++ post) → step_says (bytes_all w) (4 * length pre) ≡ Has 0
    one x pre post f e =
        let r = step-read w x pre post e in
        rw (r.whole, r.code, r.flag, r.ratio, r.height, good-back x) refl

pub steps_back :
    (w : List ℕ) (l : List Step) (pre post : List ℕ) → All StepFits l → w ≡ pre ++ (flat_map step_words l ++ post) →
    run (step_at (bytes_all w)) 16 (4 * length pre) (length l) ≡ l
unfolding step_at
steps_back w l pre post a e = run-back StepFits (step_at (bytes_all w)) step_words 4 w length-step one l pre post a e
  where
    one : (x : Step) (pre post : List ℕ) → StepFits x → w ≡ pre ++ (step_words x ++ post) → step_at (bytes_all w) (4 * length pre) ≡ x
    one x pre post f e =
        let r = step-read w x pre post e in
        rw (r.code, r.flag, r.ratio, r.height) (step_back x f)

-- ---- coordinates and corners

pub length_float : (x : Float) → length (float_words x) ≡ 1
unfolding float_words
length_float x = refl

pub floats-back :
    (w : List ℕ) (l : List Float) (pre post : List ℕ) → All (λ x. T (fits binary32 x)) l → w ≡ pre ++ (flat_map float_words l ++ post) →
    run (float_at (bytes_all w)) 4 (4 * length pre) (length l) ≡ l
unfolding float_words
floats-back w l pre post a e = run-back (λ x. T (fits binary32 x)) (float_at (bytes_all w)) float_words 1 w length_float one l pre post a e
  where
    one : (x : Float) (pre post : List ℕ) → T (fits binary32 x) → w ≡ pre ++ (float_words x ++ post) → float_at (bytes_all w) (4 * length pre) ≡ x
    one x pre post f e = ap (λ (y : List ℕ). float_at (bytes_all y) (4 * length pre)) e ∙ ap (of_bits binary32) (word-at pre (to_bits binary32 x) post) ∙ float_back x f

pub words_back : (w l pre post : List ℕ) → w ≡ pre ++ (l ++ post) → run (word_at (bytes_all w)) 4 (4 * length pre) (length l) ≡ l
unfolding run
words_back w [] pre post e = refl
words_back w (x ∷ l) pre post e =
    let q : 4 * length pre + 4 ≡ 4 * length (pre ++ (x ∷ [])) = omega (arith, length-append pre (x ∷ [])) in
    ap₂ (λ (y : ℕ) (t : List ℕ). y ∷ t) (ap (λ (y : List ℕ). word_at (bytes_all y) (4 * length pre)) e ∙ word-at pre x (l ++ post))
    (ap (λ (i : ℕ). run (word_at (bytes_all w)) 4 i (length l)) q ∙ words_back w l (pre ++ (x ∷ [])) post (e ∙ sym (append_assoc pre (x ∷ []) (l ++ post))))

-- items that are only whole or not
pub items-whole : (s : List ℕ) (size at n : ℕ) → at + size * n ≤ length s → items (whole_says s size) size at n ≡ Has 0
unfolding items whole_says whole_at
items-whole s size at zero h = refl
items-whole s size at (suc n) h =
    let w : at + size + size * n ≤ length s = omega arith in
    let z : at + size ≤ length s = omega arith in
    rw (le-leb (at + size) (length s) z) (items-whole s size (at + size) n w)

pub section-pass :
    (s : List ℕ) (at most size n : ℕ) (say : ℕ → Part) → whole_at s at 4 ≡ true → word_at s at ≡ n → n ≤ most → items say size (at + 4) n ≡ Has 0 →
    section s at most size say ≡ Has n
unfolding section count_at
section-pass s at most size n say w e h i = rw (w, e, le-leb n most h, i) refl

pub count-pass : (s : List ℕ) (at most n : ℕ) → whole_at s at 4 ≡ true → word_at s at ≡ n → n ≤ most → count_at s at most ≡ Has n
unfolding count_at
count-pass s at most n w e h = rw (w, e, le-leb n most h) refl

-- ---- faces

pub length-faces-words : (fs : List (List ℕ)) → length (flat_map face_words fs) ≡ length fs + length (flat fs)
unfolding flat_map face_words flat
length-faces-words [] = refl
length-faces-words (f ∷ fs) = omega (arith, length-append f (flat_map face_words fs), length-append f (flat fs), length-faces-words fs)

face-next : (pre f : List ℕ) → 4 * length pre + 4 + 4 * length f ≡ 4 * length (pre ++ face_words f)
unfolding face_words
face-next pre f = omega (arith, length-append pre (length f ∷ f))

-- a face that stands in a file
face-word : (w pre f post : List ℕ) → w ≡ pre ++ (face_words f ++ post) → word_at (bytes_all w) (4 * length pre) ≡ length f
unfolding face_words
face-word w pre f post e = ap (λ (y : List ℕ). word_at (bytes_all y) (4 * length pre)) e ∙ word-at pre (length f) (f ++ post)

face-pass :
    (w pre f post : List ℕ) (most : ℕ) → w ≡ pre ++ (face_words f ++ post) → length f ≤ most →
    section (bytes_all w) (4 * length pre) most 4 (whole_says (bytes_all w) 4) ≡ Has (length f)
unfolding face_words
face-pass w pre f post most e h =
    let l : length (bytes_all w) ≡ 4 * length w = length-bytes w in
    let m : length w ≡ length pre + (suc (length f) + length post) = ap length e ∙ length-append pre (face_words f ++ post) ∙ ap (λ (n : ℕ). length pre + n) (length-append (face_words f) post) in
    section-pass (bytes_all w) (4 * length pre) most 4 (length f) (whole_says (bytes_all w) 4)
    (ap (λ (y : List ℕ). whole_at (bytes_all y) (4 * length pre) 4) e ∙ whole_in pre (face_words f) post 4 (omega arith))
    (face-word w pre f post e) h
    (items-whole (bytes_all w) 4 (4 * length pre + 4) (length f) (omega arith))

pub faces-pass :
    (w : List ℕ) (fs : List (List ℕ)) (pre post : List ℕ) (sum : ℕ) → sum + length (flat fs) ≤ 1200 → w ≡ pre ++ (flat_map face_words fs ++ post) →
    faces (bytes_all w) (4 * length pre) sum (length fs) ≡ Has (sum + length (flat fs))
unfolding faces flat
faces-pass w [] pre post sum h e = let z : sum ≡ sum + 0 = omega arith in ap Has z
faces-pass w (f ∷ fs) pre post sum h e =
    let n = length-append f (flat fs) in
    let a : length f ≤ 1200 - sum = omega arith in
    let b : sum + length f + length (flat fs) ≤ 1200 = omega arith in
    let d : sum + length f + length (flat fs) ≡ sum + length (f ++ flat fs) = omega arith in
    ap (λ (y : Part). and_then y (λ a. faces (bytes_all w) (4 * length pre + 4 + 4 * a) (sum + a) (length fs))) (face-pass w pre f (flat_map face_words fs ++ post) (1200 - sum) (first-is face_words w pre post f fs e) a)
    ∙ ap (λ (i : ℕ). faces (bytes_all w) i (sum + length f) (length fs)) (face-next pre f)
    ∙ faces-pass w fs (pre ++ face_words f) post (sum + length f) b (rest-is face_words w pre post f fs e)
    ∙ ap Has d

face-corners : (w pre f post : List ℕ) → w ≡ pre ++ (face_words f ++ post) → run (word_at (bytes_all w)) 4 (4 * length pre + 4) (length f) ≡ f
unfolding face_words
face-corners w pre f post e =
    let q : 4 * length pre + 4 ≡ 4 * length (pre ++ (length f ∷ [])) = omega (arith, length-append pre (length f ∷ [])) in
    ap (λ (i : ℕ). run (word_at (bytes_all w)) 4 i (length f)) q
    ∙ words_back w f (pre ++ (length f ∷ [])) post (e ∙ sym (append_assoc pre (length f ∷ []) (f ++ post)))

pub faces-back :
    (w : List ℕ) (fs : List (List ℕ)) (pre post : List ℕ) → w ≡ pre ++ (flat_map face_words fs ++ post) →
    faces_from (bytes_all w) (4 * length pre) (length fs) ≡ fs
unfolding faces_from
faces-back w [] pre post e = refl
faces-back w (f ∷ fs) pre post e =
    let e₁ = first-is face_words w pre post f fs e in
    ap (λ (n : ℕ). run (word_at (bytes_all w)) 4 (4 * length pre + 4) n ∷ faces_from (bytes_all w) (4 * length pre + 4 + 4 * n) (length fs)) (face-word w pre f (flat_map face_words fs ++ post) e₁)
    ∙ ap₂ (λ (g : List ℕ) (i : ℕ). g ∷ faces_from (bytes_all w) i (length fs)) (face-corners w pre f (flat_map face_words fs ++ post) e₁) (face-next pre f)
    ∙ ap (λ (l : List (List ℕ)). f ∷ l) (faces-back w fs (pre ++ face_words f) post (rest-is face_words w pre post f fs e))
