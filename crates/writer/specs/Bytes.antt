-- Words as bytes: how long they are, how one store goes on after another, and that each is read back. Assumes nothing.
use Rattle.std.specs.Prelude.{◌≡◌, refl, Bool, true, List, [], ◌∷◌, ◌++◌, ℕ, zero, suc, ◌+◌, ◌*◌, ◌%◌, ◌/◌, ◌<◌, ◌≤◌, length, get_or}
use Rattle.std.proofs.Common.{sym, ◌∙◌, ap, ap₂, append_assoc, append-nil, add-zero, arith, length-append, get_or-append-add, le-leb}
use Rattle.std.proofs.lemmas.List.Edits.{sets}
use Rattle.std.proofs.Math.Seq.{append_snoc}
use Rattle.slices.specs.Lists.{sets-append}
use Rattle.words.specs.Words.{le32, word_at, whole_at, bytes_of}
use Rattle.writer.specs.File.{flat_map, bytes_all}

pub flat_map-append : {A B : Type 0} (h : A → List B) (l m : List A) → flat_map h (l ++ m) ≡ flat_map h l ++ flat_map h m
unfolding flat_map
flat_map-append h [] m = refl
flat_map-append h (x ∷ l) m = rw (flat_map-append h l m, append_assoc)

pub flat_map-one : {A B : Type 0} (h : A → List B) (x : A) → flat_map h (x ∷ []) ≡ h x
unfolding flat_map
flat_map-one h x = append-nil (h x)

pub length-flat_map : {A B : Type 0} (h : A → List B) (m : ℕ) (l : List A) → ((x : A) → length (h x) ≡ m) → length (flat_map h l) ≡ m * length l
unfolding flat_map
length-flat_map h m [] e = omega arith
length-flat_map h m (x ∷ l) e = length-append (h x) (flat_map h l) ∙ omega (arith, e x, length-flat_map h m l e)

-- ---- words as bytes

pub bytes-append : (ws vs : List ℕ) → bytes_all (ws ++ vs) ≡ bytes_all ws ++ bytes_all vs
unfolding bytes_all
bytes-append ws vs = flat_map-append bytes_of ws vs

pub bytes_one : (w : ℕ) → bytes_all (w ∷ []) ≡ bytes_of w
unfolding bytes_all
bytes_one w = flat_map-one bytes_of w

pub length-bytes : (ws : List ℕ) → length (bytes_all ws) ≡ 4 * length ws
unfolding bytes_all bytes_of
length-bytes ws = length-flat_map bytes_of 4 ws (λ x. refl)

-- words stored after words
pub put-after :
    (old o o' : List ℕ) (from at : ℕ) (ws vs : List ℕ) → o ≡ sets old from (bytes_all ws) → at ≡ from + 4 * length ws → o' ≡ sets o at (bytes_all vs) →
    o' ≡ sets old from (bytes_all (ws ++ vs))
put-after old o o' from at ws vs e p q =
    let n : at ≡ from + length (bytes_all ws) = omega (arith, length-bytes ws) in
    q ∙ ap₂ (λ (l : List ℕ) (i : ℕ). sets l i (bytes_all vs)) e n
    ∙ sets-append old from (bytes_all ws) (bytes_all vs)
    ∙ ap (sets old from) (sym (bytes-append ws vs))

pub put_one : (o o' : List ℕ) (at w : ℕ) → o' ≡ sets o at (bytes_of w) → o' ≡ sets o at (bytes_all (w ∷ []))
put_one o o' at w e = e ∙ ap (sets o at) (sym (bytes_one w))

-- ---- a word is read back

joined_back : (w : ℕ) → le32 (w % 256) (w / 256 % 256) (w / 65536 % 256) (w / 16777216) ≡ w
joined_back w = omega arith

word_after : (xs ys : List ℕ) → word_at (xs ++ ys) (length xs) ≡ word_at ys 0
unfolding word_at
word_after xs ys =
    let a : get_or (xs ++ ys) (length xs) 0 ≡ get_or ys 0 0 = ap (λ (i : ℕ). get_or (xs ++ ys) i 0) (sym (add-zero (length xs))) ∙ get_or-append-add xs ys 0 0 in
    rw (a, get_or-append-add xs ys 1 0, get_or-append-add xs ys 2 0, get_or-append-add xs ys 3 0) refl

word_first : (w : ℕ) (ys : List ℕ) → word_at (bytes_of w ++ ys) 0 ≡ w
unfolding word_at bytes_of
word_first w ys = joined_back w

pub word-at : (pre : List ℕ) (w : ℕ) (post : List ℕ) → word_at (bytes_all (pre ++ w ∷ post)) (4 * length pre) ≡ w
unfolding bytes_all flat_map
word-at pre w post =
    ap₂ word_at (bytes-append pre (w ∷ post)) (sym (length-bytes pre))
    ∙ word_after (bytes_all pre) (bytes_of w ++ bytes_all post)
    ∙ word_first w (bytes_all post)

-- the words of an item between others
pub word_in :
    (pre item post : List ℕ) (i : ℕ) → i < length item → word_at (bytes_all (pre ++ (item ++ post))) (4 * length pre + 4 * i) ≡ get_or item i 0
word_in pre [] post i h = absurd (omega arith)
word_in pre (x ∷ item) post zero h =
    let e : 4 * length pre + 4 * 0 ≡ 4 * length pre = omega arith in
    ap (word_at (bytes_all (pre ++ (x ∷ (item ++ post))))) e ∙ word-at pre x (item ++ post)
word_in pre (x ∷ item) post (suc i) h =
    let l : i < length item = omega arith in
    let e : 4 * length pre + 4 * suc i ≡ 4 * length (pre ++ (x ∷ [])) + 4 * i = omega (arith, length-append pre (x ∷ [])) in
    ap₂ (λ (w : List ℕ) (j : ℕ). word_at (bytes_all w) j) (sym (append_snoc pre x (item ++ post))) e
    ∙ word_in (pre ++ (x ∷ [])) item post i l

-- an item between others is whole
pub whole_in : (pre item post : List ℕ) (size : ℕ) → size ≤ 4 * length item → whole_at (bytes_all (pre ++ (item ++ post))) (4 * length pre) size ≡ true
unfolding whole_at
whole_in pre item post size h =
    le-leb (4 * length pre + size) (length (bytes_all (pre ++ (item ++ post))))
    (omega (arith, length-bytes (pre ++ (item ++ post)), length-append pre (item ++ post), length-append item post))
