-- Faces drawn with keys, laid flat: where each key's next and mate are known, the numbers of the keys make a closed mesh. Assumes nothing.
use Rattle.std.specs.Prelude.{◌≡◌, false, get_or, take, drop}
use Rattle.std.proofs.Math.Path.{refl, sym, ap}
use Rattle.std.proofs.Common.{◌∙◌, subst, ⊎_elim, add-zero, le_refl, not-suc-le-zero, le_of_suc-le-suc, lt_irrefl, add-one, length-append, get_or-append-add, get_or-take, get_or-drop, lt-ltb, le-ltb, ltb-true, eqb-true}
use mathlib.Core.List.{List, [], ◌∷◌, ◌++◌, map, append-nil, Memᴰ as Mem}
use Prim.Native.Nat.{ℕ, zero, suc, ◌+◌, ◌-◌, ◌≤◌, ◌<◌, zero-le}
use native.Mathlib.Omega.{arith}
use Rattle.std.proofs.Math.Nat.{zero-add, lt_of_le_of_lt}
use Rattle.std.proofs.Math.ListN.{length, get_or-append}
use Rattle.std.proofs.Math.Seq.{take-length}
use Rattle.slices.specs.First.{first, any, is_at, first-is, not-any, at-or-before, lt-or-le}
use Rattle.mesh.specs.Mesh.{faces, start, end, arity, run, face_of, next, next_in, window, window_is, mate, turned_of}
use Rattle.mesh.specs.Tests.{seen, repeats}
use Rattle.mesh.specs.Shape.{Shaped, In, next-at, end-le, length_run}
use Rattle.mesh.specs.Corners.{in-face, next-lt}
use Rattle.mesh.specs.Closed.{from, to, is-window, window-is}
use Rattle.rule.specs.Flat.{flat, ends, offsets_of, length-ends}
use Rattle.closed.specs.Keeps.{Shell}
use Rattle.closed.specs.Lists.{Nodup, joined, get_d-mem, mem-get_d, nodup-get_d, length-map, map-append, get_d_map}

-- ---- what is to be known of a drawing

-- a face of keys: three at least, each followed by the next, and no two of one vertex
pub record Round {K A : Type 0} (d : K) (vx : K → A) (nk : K → K) (f : List K) : Type 0 where
  pub three : 3 ≤ length f
  pub on : (j : ℕ) → j + 1 < length f → get_or f (j + 1) d ≡ nk (get_or f j d)
  pub back : (j : ℕ) → j + 1 ≡ length f → get_or f 0 d ≡ nk (get_or f j d)
  pub simple : (i j : ℕ) → i < length f → j < length f → vx (get_or f i d) ≡ vx (get_or f j d) → i ≡ j

-- the keys of the faces are just those that are Ok, each once
pub record Held {K : Type 0} (Ok : K → Type 0) (fs : List (List K)) : Type 0 where
  pub once : Nodup (joined fs)
  pub only : (k : K) → Mem k (joined fs) → Ok k
  pub full : (k : K) → Ok k → Mem k (joined fs)

-- the edge at a key tells the key; each key has a mate, whose edge runs back
pub record Matched {K : Type 0} (v : ℕ) (Ok : K → Type 0) (num : K → ℕ) (nk mk : K → K) : Type 0 where
  pub inside : (k : K) → Ok k → num k < v
  pub apart : (k l : K) → Ok k → Ok l → Ok (nk k) → Ok (nk l) → num k ≡ num l → num (nk k) ≡ num (nk l) → k ≡ l
  pub paired : (k : K) → Ok k → Ok (mk k) × (num (mk k) ≡ num (nk k)) × (num (nk (mk k)) ≡ num k)

-- the faces by the numbers of their keys
abbrev pub drawn : {K : Type 0} → (K → ℕ) → List (List K) → List (List ℕ)
drawn num fs = map (map num) fs

-- a list of faces, laid flat, is a closed mesh on v positions
abbrev pub Laid : List (List ℕ) → ℕ → Type 0
Laid fs v = Shell (offsets_of fs) (flat fs) v

-- ---- where a key lies

-- how many keys the faces before f have
abbrev pos : {K : Type 0} → List (List K) → ℕ → ℕ
pos fs f = length (joined (take f fs))

pos-suc : {K : Type 0} (fs : List (List K)) (f : ℕ) → f < length fs → pos fs (suc f) ≡ pos fs f + length (get_or fs f [])
unfolding joined
pos-suc [] f h = absurd (not-suc-le-zero h)
pos-suc (g ∷ gs) zero h = ap length (append-nil g) ∙ sym (zero-add (length g))
pos-suc (g ∷ gs) (suc f) h =
    let e = pos-suc gs f (le_of_suc-le-suc h) in
    omega (arith, length-append g (joined (take (suc f) gs)), length-append g (joined (take f gs)))

key-at : {K : Type 0} (d : K) (fs : List (List K)) (f j : ℕ) → f < length fs → j < length (get_or fs f []) → get_or (joined fs) (pos fs f + j) d ≡ get_or (get_or fs f []) j d
unfolding joined
key-at d [] f j h l = absurd (not-suc-le-zero h)
key-at d (g ∷ gs) zero j h l = ap (λ i. get_or (g ++ joined gs) i d) (zero-add j) ∙ get_or-append g (joined gs) d j l
key-at d (g ∷ gs) (suc f) j h l =
    let e : length (g ++ joined (take f gs)) + j ≡ length g + (pos gs f + j) = omega (arith, length-append g (joined (take f gs))) in
    ap (λ i. get_or (g ++ joined gs) i d) e ∙ get_or-append-add g (joined gs) (pos gs f + j) d ∙ key-at d gs f j (le_of_suc-le-suc h) l

starts_from : {K : Type 0} (num : K → ℕ) (a : ℕ) (fs : List (List K)) (f : ℕ) → f ≤ length fs → get_or (a ∷ ends a (drawn num fs)) f 0 ≡ a + pos fs f
unfolding ends joined
starts_from num a [] zero h = sym (add-zero a)
starts_from num a [] (suc f) h = absurd (not-suc-le-zero h)
starts_from num a (g ∷ gs) zero h = sym (add-zero a)
starts_from num a (g ∷ gs) (suc f) h =
    starts_from num (a + length (map num g)) gs f (le_of_suc-le-suc h) ∙ omega (arith, length-map num g, length-append g (joined (take f gs)))

flat-drawn : {K : Type 0} (num : K → ℕ) (fs : List (List K)) → flat (drawn num fs) ≡ map num (joined fs)
unfolding flat joined
flat-drawn num [] = refl
flat-drawn num (f ∷ fs) = ap (λ l. map num f ++ l) (flat-drawn num fs) ∙ sym (map-append num f (joined fs))

-- a list without a number twice
unlike-list : (l : List ℕ) → ((i j : ℕ) → i < j → j < length l → get_or l i 0 ≡ get_or l j 0 → ⊥) → any (seen l) (length l) ≡ false
unlike-list l h = not-any (seen l) (length l) (λ j b e.
    let t : first (is_at l (get_or l j 0)) j < j = ltb-true _ _ e in
    h (first (is_at l (get_or l j 0)) j) j t b (eqb-true _ _ ((first-is (is_at l (get_or l j 0)) j).holds t)))

-- ---- the mesh that is laid
module _ {K : Type 0} (d : K) (num : K → ℕ) (fs : List (List K)) where
  abbrev offs : List ℕ
  offs = offsets_of (drawn num fs)

  abbrev cors : List ℕ
  cors = flat (drawn num fs)

  -- the key of a corner
  abbrev key : ℕ → K
  key c = get_or (joined fs) c d

  long : length cors ≡ length (joined fs)
  long = ap length (flat-drawn num fs) ∙ length-map num (joined fs)

  number : (c : ℕ) → c < length cors → get_or cors c 0 ≡ num (key c)
  number c h = ap (λ l. get_or l c 0) (flat-drawn num fs) ∙ get_d_map num (joined fs) c d 0 (rw long at h)

  faces-laid : faces offs ≡ length fs
  unfolding offsets_of
  faces-laid = omega (arith, length-ends 0 (drawn num fs), length-map (map num) fs)

  some-laid : 0 < length offs
  unfolding offsets_of
  some-laid = omega arith

  start-laid : (f : ℕ) → f ≤ length fs → start offs f ≡ pos fs f
  unfolding offsets_of
  start-laid f h = starts_from num 0 fs f h ∙ zero-add (pos fs f)

  end-laid : (f : ℕ) → f < length fs → end offs f ≡ start offs f + length (get_or fs f [])
  end-laid f h = start-laid (f + 1) (omega arith) ∙ ap (pos fs) (add-one f) ∙ pos-suc fs f h ∙ ap (λ i. i + length (get_or fs f [])) (sym (start-laid f (omega arith)))

  none : pos fs 0 ≡ 0
  unfolding joined
  none = refl

  shaped-laid : Shaped offs (length cors)
  shaped-laid = record {
    some = some-laid;
    from = start-laid 0 zero-le ∙ none;
    rises = λ f h. omega (arith, end-laid f (rw faces-laid at h));
    last = ap (start offs) faces-laid ∙ start-laid (length fs) (le_refl _) ∙ ap (λ l. length (joined l)) (take-length fs) ∙ sym long;
  }

  in-laid : (f j : ℕ) → f < length fs → j < length (get_or fs f []) → key (start offs f + j) ≡ get_or (get_or fs f []) j d
  in-laid f j h l = ap (λ i. key (i + j)) (start-laid f (omega arith)) ∙ key-at d fs f j h l

  -- a corner by its face and its place there
  record Place (c : ℕ) : Type 0 where
    face : ℕ
    place : ℕ
    inside : In offs face c
    listed : face < length fs
    short : place < length (get_or fs face [])
    whole : start offs face + place ≡ c

  placed : (c : ℕ) → c < length cors → Place c
  placed c h =
      let i = in-face offs _ shaped-laid c h in
      let l : face_of offs c < length fs = rw faces-laid at i.face in
      record { face = face_of offs c; place = c - start offs (face_of offs c); inside = i; listed = l; short = omega (arith, i.from, i.to, end-laid _ l); whole = omega (arith, i.from) }

  module _ {nk : K → K} (round : (f : List K) → Mem f fs → Round d num nk f) where
    round-at : (f : ℕ) → f < length fs → Round d num nk (get_or fs f [])
    round-at f h = round (get_or fs f []) (get_d-mem fs f [] h)

    -- the key of the next corner is the next key
    after-key : (f j c : ℕ) → f < length fs → j < length (get_or fs f []) → start offs f + j ≡ c → key (next_in offs f c) ≡ nk (get_or (get_or fs f []) j d)
    after-key f j c h s w = ⊎_elim
        (λ l. let z : c + 1 ≡ start offs f + (j + 1) = omega arith in
        let m : j + 1 < length (get_or fs f []) = omega (arith, end-laid f h) in
        rw (lt-ltb (c + 1) (end offs f) l) (ap key z ∙ in-laid f (j + 1) h m ∙ (round-at f h).on j m))
        (λ l. let z : start offs f ≡ start offs f + 0 = omega arith in
        let m : j + 1 ≡ length (get_or fs f []) = omega (arith, end-laid f h) in
        let n : 0 < length (get_or fs f []) = omega arith in
        rw (le-ltb (c + 1) (end offs f) l) (ap key z ∙ in-laid f 0 h n ∙ (round-at f h).back j m))
        (lt-or-le (c + 1) (end offs f))

    next-key : (c : ℕ) → c < length cors → key (next offs c) ≡ nk (key c)
    next-key c h =
        let p = placed c h in
        ap key (next-at offs _ shaped-laid p.face c p.inside)
        ∙ after-key p.face p.place c p.listed p.short p.whole
        ∙ ap nk (sym (in-laid p.face p.place p.listed p.short) ∙ ap key p.whole)

    run_at : (f i : ℕ) → f < length fs → i < length (get_or fs f []) → get_or (run offs cors f) i 0 ≡ num (get_or (get_or fs f []) i d)
    run_at f i h l =
        let e = end-laid f h in
        let m = end-le offs _ shaped-laid f (rw faces-laid h) in
        let a : i < arity offs f = omega arith in
        let b : start offs f + i < length cors = omega arith in
        get_or-take (arity offs f) (drop (start offs f) cors) i 0 a ∙ get_or-drop (start offs f) cors i 0 ∙ number (start offs f + i) b ∙ ap num (in-laid f i h l)

    unlike-laid : (f : ℕ) → f < faces offs → repeats offs cors f ≡ false
    unlike-laid f h =
        let l : f < length fs = rw faces-laid at h in
        let n : length (run offs cors f) ≡ length (get_or fs f []) = omega (arith, length_run offs cors shaped-laid f h, end-laid f l) in
        unlike-list (run offs cors f) (λ i j a b q.
        let x : i < length (get_or fs f []) = omega arith in
        let y : j < length (get_or fs f []) = omega arith in
        let z : i ≡ j = (round-at f l).simple i j x y (sym (run_at f i l x) ∙ q ∙ run_at f j l y) in
        lt_irrefl j (omega arith))

    module _ {v : ℕ} {Ok : K → Type 0} {mk : K → K} (held : Held Ok fs) (matched : Matched v Ok num nk mk) where
      ok : (c : ℕ) → c < length cors → Ok (key c)
      ok c h = held.only (key c) (get_d-mem (joined fs) c d (rw long at h))

      ok-next : (c : ℕ) → c < length cors → Ok (nk (key c))
      ok-next c h = subst Ok (next-key c h) (ok (next offs c) (next-lt offs _ shaped-laid c h))

      to_is : (c : ℕ) → c < length cors → to offs cors c ≡ num (nk (key c))
      to_is c h = number (next offs c) (next-lt offs _ shaped-laid c h) ∙ ap num (next-key c h)

      once-laid : (b c : ℕ) → b < length cors → c < length cors → from offs cors b ≡ from offs cors c → to offs cors b ≡ to offs cors c → b ≡ c
      once-laid b c h l p q =
          nodup-get_d (joined fs) d held.once b c (rw long at h) (rw long at l)
          (matched.apart (key b) (key c) (ok b h) (ok c l) (ok-next b h) (ok-next c l) (sym (number b h) ∙ p ∙ number c l) (sym (to_is b h) ∙ q ∙ to_is c l))

      mated : (c : ℕ) → c < length cors → (mate offs cors c < length cors) × ((from offs cors (mate offs cors c) ≡ to offs cors c) × (to offs cors (mate offs cors c) ≡ from offs cors c))
      unfolding mate window
      mated c h =
          let t = matched.paired (key c) (ok c h) in
          let s = mem-get_d d (held.full (mk (key c)) t.0) in
          let b : ℕ = s.0 in
          let l : b < length cors = rw long s.1 in
          let p : from offs cors b ≡ to offs cors c = number b l ∙ ap num s.2 ∙ t.1 ∙ sym (to_is c h) in
          let q : to offs cors b ≡ from offs cors c = to_is b l ∙ ap (λ x. num (nk x)) s.2 ∙ t.2 ∙ sym (number c h) in
          let m : mate offs cors c < length cors = lt_of_le_of_lt (at-or-before (window_is offs cors (turned_of (window offs cors c))) (length cors) b (window-is offs cors (to offs cors c) (from offs cors c) b p q)) l in
          (m, is-window offs cors (to offs cors c) (from offs cors c) (mate offs cors c) ((first-is (window_is offs cors (turned_of (window offs cors c))) (length cors)).holds m))

      pub shell-laid : Laid (drawn num fs) v
      shell-laid = record {
        surface = record {
          shaped = shaped-laid;
          full = λ f h. let l : f < length fs = rw faces-laid at h in omega (arith, end-laid f l, (round-at f l).three);
          unlike = unlike-laid;
          closed = record {
            once = once-laid;
            other = mate offs cors;
            other-lt = λ c h. (mated c h).0;
            other_from = λ c h. (mated c h).1.0;
            other-to = λ c h. (mated c h).1.1;
          };
        };
        inside = λ c h. rw (number c h) (matched.inside (key c) (ok c h));
      }
