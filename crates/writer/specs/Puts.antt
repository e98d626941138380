-- What the writer's loops have stored after so many turns, and what it knows when it begins. Assumes nothing.
use Rattle.std.specs.Prelude.{Ok, Err}
use Rattle.std.specs.Prelude.{◌≡◌, refl, Bool, true, false, cond, List, [], ◌∷◌, ◌++◌, ℕ, zero, suc, ◌+◌, ◌-◌, ◌*◌, ◌/◌, ◌<◌, ◌≤◌, length, get_or, take, drop, ltb, eqb, Float}
use Rattle.std.proofs.Common.{sym, ◌∙◌, ap, ap₂, subst, append_assoc, append-nil, add-one, arith, length-append, length-drop, take-suc, length-take-le, ltb-false, ltb-true, lt-ltb, le-ltb, eq-eqb, ne_eqb}
use Rattle.std.proofs.lemmas.List.Edits.{sets}
use Rattle.std.proofs.Math.Seq.{take-length}
use Rattle.std.specs.Float.Ieee.{to_bits}
use Rattle.std.specs.Float.{binary32}
use Rattle.slices.specs.First.{first, any}
use Rattle.slices.specs.Lists.{each, over, each_more, length-each, sets_over}
use Rattle.mesh.specs.Mesh.{start, end, arity}
use Rattle.mesh.specs.Mesh as Mesh
use Rattle.mesh.specs.Tests.{verdict, wrong_shape, too_many, size_tests}
use Rattle.mesh.specs.Shape.{Shaped, passed-shape, end-le, length_run}
use Rattle.mesh.specs.Verdict.{Verdict}
use Rattle.mesh.specs.Verdict.{Good, Bad}
use Rattle.steps.specs.declared.Step.{Step}
use Rattle.steps.specs.Steps.{code_of}
use Rattle.operators.specs.Number.{Number}
use Rattle.words.specs.Words.{bytes_of}
use Rattle.writer.specs.Written.{Written}
use Rattle.writer.specs.Written.{Done, Refused}
use Rattle.writer.specs.File.{flat_map, ratio_in, height_in, flag_of, bits_in, step_words, float_words, face_words, file_words, bytes_all, file_of, given}
use Rattle.writer.specs.Bytes.{flat_map-append, flat_map-one, length-flat_map, length-bytes, put-after, put_one}
use Rattle.writer.specs.Items.{length-step, length_float}
use Rattle.writer.specs.Answer.{written_of, bytes_after, Wrote}

-- ---- items of one size

-- m words an item: i of them are stored
pub put_item :
    {A : Type 0} (h : A → List ℕ) (m : ℕ) (l : List A) (d y : A) (old o o' : List ℕ) (from at i : ℕ) → ((z : A) → length (h z) ≡ m) → i < length l →
    o ≡ sets old from (bytes_all (flat_map h (take i l))) → at ≡ from + 4 * (m * i) → y ≡ get_or l i d → o' ≡ sets o at (bytes_all (h y)) →
    o' ≡ sets old from (bytes_all (flat_map h (take (i + 1) l)))
put_item {A} h m l d y old o o' from at i n c e p q r =
    let t : length (flat_map h (take i l)) ≡ m * i = length-flat_map h m (take i l) n ∙ ap (λ (j : ℕ). m * j) (length-take-le i l (omega arith)) in
    let u : flat_map h (take (i + 1) l) ≡ flat_map h (take i l) ++ h y =
    ap (λ (j : ℕ). flat_map h (take j l)) (add-one i) ∙ ap (flat_map h) (take-suc l i d c) ∙ flat_map-append h (take i l) (get_or l i d ∷ [])
    ∙ ap (λ (z : List ℕ). flat_map h (take i l) ++ z) (flat_map-one h (get_or l i d) ∙ ap h (sym q)) in
    put-after old o o' from at (flat_map h (take i l)) (h y) e (p ∙ ap (λ (j : ℕ). from + 4 * j) (sym t)) r ∙ ap (λ (z : List ℕ). sets old from (bytes_all z)) (sym u)

pub put-none : {A : Type 0} (h : A → List ℕ) (l : List A) (old : List ℕ) (from : ℕ) → old ≡ sets old from (bytes_all (flat_map h (take 0 l)))
unfolding flat_map bytes_all
put-none h l old from = refl

unfoldable pub one_word : ℕ → List ℕ
one_word y = y ∷ []

pub length-one : (y : ℕ) → length (one_word y) ≡ 1
unfolding one_word
length-one y = refl

pub one_each : (l : List ℕ) → flat_map one_word l ≡ l
unfolding flat_map one_word
one_each [] = refl
one_each (y ∷ l) = ap (λ (t : List ℕ). y ∷ t) (one_each l)

pub put-single : (o o' : List ℕ) (at w : ℕ) → o' ≡ sets o at (bytes_of w) → o' ≡ sets o at (bytes_all (one_word w))
unfolding one_word
put-single o o' at w e = put_one o o' at w e

pub put-float : (o o' : List ℕ) (at w : ℕ) (x : Float) → o' ≡ sets o at (bytes_of w) → w ≡ to_bits binary32 x → o' ≡ sets o at (bytes_all (float_words x))
unfolding float_words
put-float o o' at w x e p = put_one o o' at w e ∙ ap (λ (z : ℕ). sets o at (bytes_all (z ∷ []))) p

pub put_whole : (l old o : List ℕ) (from i : ℕ) → o ≡ sets old from (bytes_all (flat_map one_word (take i l))) → i ≡ length l → o ≡ sets old from (bytes_all l)
put_whole l old o from i e p =
    e ∙ ap (λ (j : ℕ). sets old from (bytes_all (flat_map one_word (take j l)))) p
    ∙ ap (λ (z : List ℕ). sets old from (bytes_all z)) (ap (flat_map one_word) (take-length l) ∙ one_each l)

pub put_all :
    {A : Type 0} (h : A → List ℕ) (l : List A) (old o : List ℕ) (from i : ℕ) → o ≡ sets old from (bytes_all (flat_map h (take i l))) → i ≡ length l →
    o ≡ sets old from (bytes_all (flat_map h l))
put_all h l old o from i e p =
    e ∙ ap (λ (j : ℕ). sets old from (bytes_all (flat_map h (take j l)))) p ∙ ap (λ z. sets old from (bytes_all (flat_map h z))) (take-length l)

-- a step: four words
pub put-words-4 :
    (o o₁ o₂ o₃ o₄ : List ℕ) (at a b c d : ℕ) → o₁ ≡ sets o at (bytes_of a) → o₂ ≡ sets o₁ (at + 4) (bytes_of b) → o₃ ≡ sets o₂ (at + 8) (bytes_of c) →
    o₄ ≡ sets o₃ (at + 12) (bytes_of d) → o₄ ≡ sets o at (bytes_all (a ∷ b ∷ c ∷ d ∷ []))
put-words-4 o o₁ o₂ o₃ o₄ at a b c d p q r s =
    put-after o o₃ o₄ at (at + 12) (a ∷ b ∷ c ∷ []) (d ∷ [])
    (put-after o o₂ o₃ at (at + 8) (a ∷ b ∷ []) (c ∷ [])
    (put-after o o₁ o₂ at (at + 4) (a ∷ []) (b ∷ []) (put_one o o₁ at a p) refl (put_one o₁ o₂ (at + 4) b q))
    refl (put_one o₂ o₃ (at + 8) c r))
    refl (put_one o₃ o₄ (at + 12) d s)

pub put_step :
    (o o' : List ℕ) (at a b c d : ℕ) (s : Step) (t h : Number) → o' ≡ sets o at (bytes_all (a ∷ b ∷ c ∷ d ∷ [])) → a ≡ code_of s → t ≡ ratio_in s → h ≡ height_in s →
    b ≡ flag_of t + 2 * flag_of h → c ≡ bits_in t → d ≡ bits_in h → o' ≡ sets o at (bytes_all (step_words s))
unfolding step_words
put_step o o' at a b c d s t h e ea et eh eb ec ed = rw (← et, ← eh, ← ea, ← eb, ← ec, ← ed) e

-- ---- faces

pub put-face : (o o₁ o₂ f : List ℕ) (at w : ℕ) → w ≡ length f → o₁ ≡ sets o at (bytes_of w) → o₂ ≡ sets o₁ (at + 4) (bytes_all f) → o₂ ≡ sets o at (bytes_all (face_words f))
unfolding face_words
put-face o o₁ o₂ f at w e p q =
    put-after o o₁ o₂ at (at + 4) (w ∷ []) f (put_one o o₁ at w p) refl q ∙ ap (λ (j : ℕ). sets o at (bytes_all (j ∷ f))) e

abbrev pub faces_to : List ℕ → List ℕ → ℕ → List (List ℕ)
faces_to o k i = each (λ f. Mesh.run o k f ∷ []) i

long-face : (f : List ℕ) → length (face_words f) ≡ suc (length f)
unfolding face_words
long-face f = refl

length_to : (o k : List ℕ) → Shaped o (length k) → (i : ℕ) → i ≤ Mesh.faces o → length (flat_map face_words (faces_to o k i)) ≡ i + start o i
unfolding each flat_map
length_to o k s zero h = omega (arith, s.from)
length_to o k s (suc i) h =
    let f : List ℕ = Mesh.run o k i in
    let e : length (flat_map face_words (faces_to o k i)) ≡ i + start o i = length_to o k s i (omega arith) in
    let r : length f ≡ arity o i = length_run o k s i (omega arith) in
    let u : start o i ≤ end o i = s.rises i (omega arith) in
    let g : length (face_words f) ≡ suc (length f) = long-face f in
    let z : get_or o (i + 1) 0 ≡ get_or o (suc i) 0 = ap (λ (j : ℕ). get_or o j 0) (add-one i) in
    ap length (flat_map-append face_words (faces_to o k i) (f ∷ [])) ∙ length-append (flat_map face_words (faces_to o k i)) (flat_map face_words (f ∷ []))
    ∙ ap (λ (l : List ℕ). length (flat_map face_words (faces_to o k i)) + length l) (flat_map-one face_words f)
    ∙ omega (arith, e, r, u, g, z)

pub put-faces-more :
    (o k : List ℕ) (s : Shaped o (length k)) (old b b' : List ℕ) (from at i lo hi : ℕ) → i < Mesh.faces o → lo ≡ start o i → hi ≡ end o i →
    b ≡ sets old from (bytes_all (flat_map face_words (faces_to o k i))) → at ≡ from + 4 * (i + lo) →
    b' ≡ sets b at (bytes_all (face_words (take (hi - lo) (drop lo k)))) → b' ≡ sets old from (bytes_all (flat_map face_words (faces_to o k (i + 1))))
put-faces-more o k s old b b' from at i lo hi h el eh e p q =
    let f : List ℕ = Mesh.run o k i in
    let n : length (flat_map face_words (faces_to o k i)) ≡ i + start o i = length_to o k s i (omega arith) in
    let g : take (hi - lo) (drop lo k) ≡ f = ap₂ (λ (x y : ℕ). take (y - x) (drop x k)) el eh in
    let t : at ≡ from + 4 * length (flat_map face_words (faces_to o k i)) = omega (arith, p, n, el) in
    let u : flat_map face_words (faces_to o k (i + 1)) ≡ flat_map face_words (faces_to o k i) ++ face_words f =
    ap (flat_map face_words) (each_more (λ f. Mesh.run o k f ∷ []) i) ∙ flat_map-append face_words (faces_to o k i) (f ∷ [])
    ∙ ap (λ (z : List ℕ). flat_map face_words (faces_to o k i) ++ z) (flat_map-one face_words f) in
    put-after old b b' from at (flat_map face_words (faces_to o k i)) (face_words f) e t (q ∙ ap (λ (z : List ℕ). sets b at (bytes_all (face_words z))) g)
    ∙ ap (λ (z : List ℕ). sets old from (bytes_all z)) (sym u)

pub put-faces-none : (o k old : List ℕ) (from : ℕ) → old ≡ sets old from (bytes_all (flat_map face_words (faces_to o k 0)))
unfolding each flat_map bytes_all
put-faces-none o k old from = refl

-- the run of a face lies within the corners, and its words within the room for all
pub span : (o : List ℕ) (n f a b : ℕ) → Shaped o n → f + 1 < length o → a ≡ get_or o f 0 → b ≡ get_or o (f + 1) 0 → (a ≤ b) × (b ≤ n)
span o n f a b s h p q = (omega (arith, s.rises f (omega arith)), omega (arith, end-le o n s f (omega arith)))

pub face-room :
    (o k : List ℕ) (f a b from room : ℕ) → f + 1 < length o → a ≤ b → b ≤ length k → from + 4 * (Mesh.faces o + length k) ≤ room → length k ≤ 1200 →
    (from + 4 * (f + a) + 4 + 4 * length (take (b - a) (drop a k)) ≤ room) × (length (take (b - a) (drop a k)) ≤ 1200)
face-room o k f a b from room h l m r w =
    let e : length (take (b - a) (drop a k)) ≡ b - a = length-take-le (b - a) (drop a k) (omega (arith, length-drop a k)) in
    (omega arith, omega arith)

-- ---- the whole file

abbrev pub size_of : ℕ → ℕ → ℕ → ℕ → ℕ
size_of n lo lk lx = 8 + 16 * n + 4 * lx + 4 * lo + 4 * lk

pub length-file :
    (l : List Step) (n : ℕ) (o k : List ℕ) (x : List Float) → n ≤ length l → Shaped o (length k) → length (file_of (given l n o k x)) ≡ size_of n (length o) (length k) (length x)
unfolding file_of file_words given
length-file l n o k x h s =
    let a : length (flat_map step_words (take n l)) ≡ 4 * n = length-flat_map step_words 4 (take n l) length-step ∙ ap (λ (j : ℕ). 4 * j) (length-take-le n l h) in
    let b : length (flat_map float_words x) ≡ 1 * length x = length-flat_map float_words 1 x length_float in
    let f : length (flat_map face_words (Mesh.faces_of o k)) ≡ Mesh.faces o + length k = length_to o k s (Mesh.faces o) (omega arith) ∙ ap (λ (j : ℕ). Mesh.faces o + j) s.last in
    length-bytes (file_words (given l n o k x))
    ∙ ap (λ (j : ℕ). 4 * j) (length-append (length (take n l) ∷ flat_map step_words (take n l)) _ ∙ ap (λ (j : ℕ). suc (length (flat_map step_words (take n l))) + j) (length-append (length x / 3 ∷ flat_map float_words x) _))
    ∙ omega (arith, a, b, f, s.some)

pub put-file :
    (l : List Step) (n : ℕ) (o k : List ℕ) (x : List Float) (b b₁ b₂ b₃ b₄ b₅ b₆ : List ℕ) (wn wv wf : ℕ) → n ≤ length l → wn ≡ n →
    wv ≡ length x / 3 → wf ≡ Mesh.faces o → b₁ ≡ sets b 0 (bytes_of wn) → b₂ ≡ sets b₁ 4 (bytes_all (flat_map step_words (take n l))) →
    b₃ ≡ sets b₂ (4 + 16 * n) (bytes_of wv) → b₄ ≡ sets b₃ (4 + 16 * n + 4) (bytes_all (flat_map float_words x)) →
    b₅ ≡ sets b₄ (4 + 16 * n + 4 + 4 * length x) (bytes_of wf) →
    b₆ ≡ sets b₅ (4 + 16 * n + 4 + 4 * length x + 4) (bytes_all (flat_map face_words (Mesh.faces_of o k))) → b₆ ≡ sets b 0 (file_of (given l n o k x))
unfolding file_of file_words given
put-file l n o k x b b₁ b₂ b₃ b₄ b₅ b₆ wn wv wf h en ev ef p₁ p₂ p₃ p₄ p₅ p₆ =
    let A : List ℕ = flat_map step_words (take n l) in
    let X : List ℕ = flat_map float_words x in
    let F : List ℕ = flat_map face_words (Mesh.faces_of o k) in
    let t : length (take n l) ≡ n = length-take-le n l h in
    let a : length A ≡ 4 * n = length-flat_map step_words 4 (take n l) length-step ∙ ap (λ (j : ℕ). 4 * j) t in
    let c : length X ≡ 1 * length x = length-flat_map float_words 1 x length_float in
    let m : Mesh.faces o ≡ length (Mesh.faces_of o k) = let e = length-each (λ f. Mesh.run o k f ∷ []) 1 (Mesh.faces o) (λ i. refl) in omega arith in
    let u₁ : b₁ ≡ sets b 0 (bytes_all (wn ∷ [])) = put_one b b₁ 0 wn p₁ in
    let u₂ : b₂ ≡ sets b 0 (bytes_all (wn ∷ A)) = put-after b b₁ b₂ 0 4 (wn ∷ []) A u₁ refl p₂ in
    let u₃ : b₃ ≡ sets b 0 (bytes_all ((wn ∷ A) ++ (wv ∷ []))) = put-after b b₂ b₃ 0 (4 + 16 * n) (wn ∷ A) (wv ∷ []) u₂ (omega (arith, a)) (put_one b₂ b₃ (4 + 16 * n) wv p₃) in
    let l₃ : length ((wn ∷ A) ++ (wv ∷ [])) ≡ 4 * n + 2 = length-append (wn ∷ A) (wv ∷ []) ∙ omega (arith, a) in
    let u₄ : b₄ ≡ sets b 0 (bytes_all (((wn ∷ A) ++ (wv ∷ [])) ++ X)) = put-after b b₃ b₄ 0 (4 + 16 * n + 4) ((wn ∷ A) ++ (wv ∷ [])) X u₃ (omega (arith, l₃)) p₄ in
    let l₄ : length (((wn ∷ A) ++ (wv ∷ [])) ++ X) ≡ 4 * n + 2 + length x = length-append ((wn ∷ A) ++ (wv ∷ [])) X ∙ omega (arith, l₃, c) in
    let u₅ : b₅ ≡ sets b 0 (bytes_all ((((wn ∷ A) ++ (wv ∷ [])) ++ X) ++ (wf ∷ []))) =
    put-after b b₄ b₅ 0 (4 + 16 * n + 4 + 4 * length x) (((wn ∷ A) ++ (wv ∷ [])) ++ X) (wf ∷ []) u₄ (omega (arith, l₄)) (put_one b₄ b₅ (4 + 16 * n + 4 + 4 * length x) wf p₅) in
    let l₅ : length ((((wn ∷ A) ++ (wv ∷ [])) ++ X) ++ (wf ∷ [])) ≡ 4 * n + 3 + length x = length-append (((wn ∷ A) ++ (wv ∷ [])) ++ X) (wf ∷ []) ∙ omega (arith, l₄) in
    let u₆ : b₆ ≡ sets b 0 (bytes_all (((((wn ∷ A) ++ (wv ∷ [])) ++ X) ++ (wf ∷ [])) ++ F)) =
    put-after b b₅ b₆ 0 (4 + 16 * n + 4 + 4 * length x + 4) ((((wn ∷ A) ++ (wv ∷ [])) ++ X) ++ (wf ∷ [])) F u₅ (omega (arith, l₅)) p₆ in
    let g : ((((wn ∷ A) ++ (wv ∷ [])) ++ X) ++ (wf ∷ [])) ++ F ≡ (wn ∷ A) ++ ((wv ∷ X) ++ (wf ∷ F)) =
    append_assoc (((wn ∷ A) ++ (wv ∷ [])) ++ X) (wf ∷ []) F ∙ append_assoc ((wn ∷ A) ++ (wv ∷ [])) X (wf ∷ F) ∙ append_assoc (wn ∷ A) (wv ∷ []) (X ++ (wf ∷ F)) in
    u₆ ∙ ap (λ (z : List ℕ). sets b 0 (bytes_all z)) g
    ∙ ap (λ (j : ℕ). sets b 0 (bytes_all ((j ∷ A) ++ ((wv ∷ X) ++ (wf ∷ F))))) (en ∙ sym t)
    ∙ ap₂ (λ (i j : ℕ). sets b 0 (bytes_all ((length (take n l) ∷ A) ++ ((i ∷ X) ++ (j ∷ F))))) ev (ef ∙ m)

-- ---- the decision, by lengths

abbrev pub limits_of : ℕ → ℕ → ℕ → ℕ → ℕ → Written
limits_of n lo lk lx room =
    cond (ltb 16 n) (Refused 2 3)
    (cond (ltb 401 lo) (Refused 2 0)
    (cond (ltb 1200 lk) (Refused 2 1)
    (cond (ltb 400 (lx / 3)) (Refused 2 2)
    (cond (ltb room (size_of n lo lk lx)) (Refused 13 0) (Done (size_of n lo lk lx))))))

-- number 1 of a mesh's own table comes first; its number 2 is left to the file's limits
abbrev pub shape_first : Verdict → Written → Written
shape_first (Ok _) then = then
shape_first (Err r) then = cond (eqb r.number 1) (Refused 1 r.place) then

pub shape-yes : (v : Verdict) (w : Written) {n p : ℕ} → v ≡ Bad n p → n ≡ 1 → Refused 1 p ≡ shape_first v w
shape-yes v w {n} {p} e h = rw (e, eq-eqb n 1 h) refl

pub shape-no : (v : Verdict) (w : Written) {n p : ℕ} → v ≡ Bad n p → (n ≡ 1 → ⊥) → w ≡ shape_first v w
shape-no v w {n} {p} e h = sym (ap (λ (y : Verdict). shape_first y w) e ∙ ap (λ (b : Bool). cond b (Refused 1 p) w) (ne_eqb n 1 h))

-- what is known when the writing begins
pub record Filing (o k : List ℕ) (n lx room : ℕ) : Type 0 where
  pub shaped : Shaped o (length k)
  pub few : n ≤ 16
  pub faces : length o ≤ 401
  pub corners : length k ≤ 1200
  pub coords : lx / 3 ≤ 400
  pub fits : size_of n (length o) (length k) lx ≤ room

abbrev FilingAs : List ℕ → List ℕ → ℕ → ℕ → ℕ → Written → Type 0
FilingAs o k n lx room (Ok size) = Filing o k n lx room
FilingAs o k n lx room (Err r) = Unit

limits-known : (o k : List ℕ) (n lx room : ℕ) → Shaped o (length k) → FilingAs o k n lx room (limits_of n (length o) (length k) lx room)
limits-known o k n lx room s = go (ltb 16 n) (ltb 401 (length o)) (ltb 1200 (length k)) (ltb 400 (lx / 3)) (ltb room (size_of n (length o) (length k) lx)) refl refl refl refl refl
  where
    go : (a b c d e : Bool) → ltb 16 n ≡ a → ltb 401 (length o) ≡ b → ltb 1200 (length k) ≡ c → ltb 400 (lx / 3) ≡ d → ltb room (size_of n (length o) (length k) lx) ≡ e →
        FilingAs o k n lx room (cond a (Refused 2 3) (cond b (Refused 2 0) (cond c (Refused 2 1) (cond d (Refused 2 2) (cond e (Refused 13 0) (Done (size_of n (length o) (length k) lx)))))))
    go true b c d e p q r t u = tt
    go false true c d e p q r t u = tt
    go false false true d e p q r t u = tt
    go false false false true e p q r t u = tt
    go false false false false true p q r t u = tt
    go false false false false false p q r t u =
        record { shaped = s; few = ltb-false 16 n p; faces = ltb-false 401 (length o) q; corners = ltb-false 1200 (length k) r; coords = ltb-false 400 (lx / 3) t; fits = ltb-false room (size_of n (length o) (length k) lx) u }

shape_is :
    (o : List ℕ) (n m : ℕ) (w : Written) →
    shape_first (verdict (size_tests o n m)) w ≡ cond (any (wrong_shape o n m) 2) (Refused 1 (first (wrong_shape o n m) 2)) w
unfolding size_tests verdict
shape_is o n m w = go (any (wrong_shape o n m) 2) (any (too_many (Mesh.faces o) n m) 3)
  where
    go : (a b : Bool) → shape_first (cond a (Bad 1 (first (wrong_shape o n m) 2)) (cond b (Bad 2 (first (too_many (Mesh.faces o) n m) 3)) Good)) w ≡ cond a (Refused 1 (first (wrong_shape o n m) 2)) w
    go true b = refl
    go false true = refl
    go false false = refl

limits-are :
    (l : List Step) (n : ℕ) (o k : List ℕ) (x : List Float) (room : ℕ) → (n ≤ 16 → n ≤ length l) → Shaped o (length k) →
    limits_of n (length o) (length k) (length x) room ≡
    cond (ltb 16 n) (Refused 2 3)
    (cond (ltb 400 (Mesh.faces o)) (Refused 2 0)
    (cond (ltb 1200 (length k)) (Refused 2 1)
    (cond (ltb 400 (length x / 3)) (Refused 2 2)
    (cond (ltb room (length (file_of (given l n o k x)))) (Refused 13 0) (Done (length (file_of (given l n o k x))))))))
limits-are l n o k x room h s = go (ltb 16 n) refl
  where
    many : (a : Bool) → ltb 401 (length o) ≡ a → a ≡ ltb 400 (Mesh.faces o)
    many true e = let w = ltb-true 401 (length o) e in sym (lt-ltb 400 (Mesh.faces o) (omega arith))
    many false e = let w = ltb-false 401 (length o) e in sym (le-ltb 400 (Mesh.faces o) (omega arith))

    go : (a : Bool) → ltb 16 n ≡ a →
        cond a (Refused 2 3) (cond (ltb 401 (length o)) (Refused 2 0) (cond (ltb 1200 (length k)) (Refused 2 1) (cond (ltb 400 (length x / 3)) (Refused 2 2) (cond (ltb room (size_of n (length o) (length k) (length x))) (Refused 13 0) (Done (size_of n (length o) (length k) (length x))))))) ≡
        cond a (Refused 2 3) (cond (ltb 400 (Mesh.faces o)) (Refused 2 0) (cond (ltb 1200 (length k)) (Refused 2 1) (cond (ltb 400 (length x / 3)) (Refused 2 2) (cond (ltb room (length (file_of (given l n o k x)))) (Refused 13 0) (Done (length (file_of (given l n o k x))))))))
    go true e = refl
    go false e =
        let c : n ≤ length l = h (ltb-false 16 n e) in
        rw (many (ltb 401 (length o)) refl, length-file l n o k x c s) refl

shaped-or : (o : List ℕ) (n m : ℕ) → any (wrong_shape o n m) 2 ≡ false → Shaped o n
shaped-or o n m e = passed-shape o n m (ltb-false (first (wrong_shape o n m) 2) 2 e)

pub written_is :
    (l : List Step) (n : ℕ) (o k : List ℕ) (x : List Float) (room : ℕ) (v : Verdict) (w r : Written) → (n ≤ 16 → n ≤ length l) →
    v ≡ verdict (size_tests o (length k) (length x)) → w ≡ limits_of n (length o) (length k) (length x) room → r ≡ shape_first v w → r ≡ written_of l n o k x room
unfolding written_of
written_is l n o k x room v w r h e p q =
    q ∙ ap₂ shape_first e p ∙ shape_is o (length k) (length x) (limits_of n (length o) (length k) (length x) room)
    ∙ go (any (wrong_shape o (length k) (length x)) 2) refl
  where
    go : (a : Bool) → any (wrong_shape o (length k) (length x)) 2 ≡ a →
        cond a (Refused 1 (first (wrong_shape o (length k) (length x)) 2)) (limits_of n (length o) (length k) (length x) room) ≡
        cond a (Refused 1 (first (wrong_shape o (length k) (length x)) 2))
        (cond (ltb 16 n) (Refused 2 3) (cond (ltb 400 (Mesh.faces o)) (Refused 2 0) (cond (ltb 1200 (length k)) (Refused 2 1) (cond (ltb 400 (length x / 3)) (Refused 2 2) (cond (ltb room (length (file_of (given l n o k x)))) (Refused 13 0) (Done (length (file_of (given l n o k x)))))))))
    go true e = refl
    go false e = limits-are l n o k x room h (shaped-or o (length k) (length x) e)

pub filing-is :
    (n : ℕ) (o k : List ℕ) (lx room : ℕ) (v : Verdict) (w r : Written) {z : ℕ} → v ≡ verdict (size_tests o (length k) lx) →
    w ≡ limits_of n (length o) (length k) lx room → r ≡ shape_first v w → r ≡ Done z → Filing o k n lx room
filing-is n o k lx room v w r e p q d =
    subst (FilingAs o k n lx room) (sym (q ∙ ap₂ shape_first e p ∙ shape_is o (length k) lx (limits_of n (length o) (length k) lx room)) ∙ d)
    (go (any (wrong_shape o (length k) lx) 2) refl)
  where
    go : (a : Bool) → any (wrong_shape o (length k) lx) 2 ≡ a → FilingAs o k n lx room (cond a (Refused 1 (first (wrong_shape o (length k) lx) 2)) (limits_of n (length o) (length k) lx room))
    go true e = tt
    go false e = limits-known o k n lx room (shaped-or o (length k) lx e)

pub wrote-stop :
    (l : List Step) (n : ℕ) (o k : List ℕ) (x : List Float) (out : List ℕ) (r : Written) {a b : ℕ} → r ≡ written_of l n o k x (length out) → r ≡ Refused a b →
    Wrote l n o k x out r out
wrote-stop l n o k x out r e h = record { answer = e; bytes = ap (λ (y : Written). bytes_after y (file_of (given l n o k x)) out) (sym h) }

pub wrote-done :
    (l : List Step) (n : ℕ) (o k : List ℕ) (x : List Float) (out out' : List ℕ) (r : Written) {z : ℕ} → (n ≤ 16 → n ≤ length l) → r ≡ written_of l n o k x (length out) → r ≡ Done z →
    Filing o k n (length x) (length out) → out' ≡ sets out 0 (file_of (given l n o k x)) → Wrote l n o k x out r out'
wrote-done l n o k x out out' r h e d g p =
    let c : n ≤ length l = h g.few in
    let f : length (file_of (given l n o k x)) ≤ length out = omega (arith, length-file l n o k x c g.shaped, g.fits) in
    record { answer = e; bytes = p ∙ sets_over out (file_of (given l n o k x)) f ∙ ap (λ (y : Written). bytes_after y (file_of (given l n o k x)) out) (sym d) }
