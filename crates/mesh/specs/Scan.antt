-- A scan that passes over the corners of other vertices: what it leaves known, and the face of a corner found from an earlier face on.
-- Assumes nothing.
use Rattle.std.specs.Prelude.{ℕ, ◌+◌, ◌≤◌, ◌<◌, ◌≡◌, refl, Bool, true, false, not, ◌&&◌, List, get_or, ltb, eqb}
use Rattle.std.proofs.Common.{sym, ◌∙◌, ap, true≢false, ⊎_elim, arith, le_trans, ltb-false, le-ltb}
use Rattle.slices.specs.First.{first-is, is_at, Searched, lt-or-le, both}
use Rattle.mesh.specs.Mesh.{faces, start, end, face_of, window, window_is}

-- from i on the scan came to r: the test holds nowhere between
pub record Skipped (p : ℕ → Bool) (n i r : ℕ) : Type 0 where
  pub ahead : i ≤ r
  pub within : r ≤ n
  pub between : (k : ℕ) → i ≤ k → k < r → p k ≡ false

pub skipped-more : {p : ℕ → Bool} {n i r : ℕ} → Skipped p n i r → r < n → p r ≡ false → Skipped p n i (r + 1)
skipped-more {p} {n} {i} {r} s h e =
    let a : i ≤ r = s.ahead in
    record { ahead = omega arith; within = omega arith; between = λ k l m. ⊎_elim (λ w. s.between k l w) (λ w. let z : k ≡ r = omega (arith, m, w) in ap p z ∙ e) (lt-or-le k r) }

further : {p : ℕ → Bool} {n i r : ℕ} → Skipped p n i r → (t : ℕ) → t ≡ r + 1 → r < n → p r ≡ false → Skipped p n i t
further s t q h e = rw q (skipped-more s h e)

-- none of four numbers is v
abbrev pub none_is : ℕ → ℕ → ℕ → ℕ → ℕ → Bool
none_is v p q r s = not (eqb p v) && (not (eqb q v) && (not (eqb r v) && not (eqb s v)))

not-true : (b : Bool) → not b ≡ true → b ≡ false
not-true true e = absurd (true≢false (sym e))
not-true false e = refl

four-apart : (a b c d : Bool) → not a && (not b && (not c && not d)) ≡ true → (a ≡ false) × (b ≡ false) × (c ≡ false) × (d ≡ false)
four-apart a b c d e =
    let p = both (not a) _ e in
    let q = both (not b) _ p.1 in
    let r = both (not c) _ q.1 in
    (not-true a p.0, not-true b q.0, not-true c r.0, not-true d r.1)

module _ (k : List ℕ) (v n i c : ℕ) (s : Skipped (is_at k v) n i c) (h : c + 4 ≤ n) where
  pub skipped-four : none_is v (get_or k c 0) (get_or k (c + 1) 0) (get_or k (c + 2) 0) (get_or k (c + 3) 0) ≡ true → Skipped (is_at k v) n i (c + 4)
  skipped-four e =
      let f = four-apart (is_at k v c) (is_at k v (c + 1)) (is_at k v (c + 2)) (is_at k v (c + 3)) e in
      let s1 = further s (c + 1) (omega arith) (omega arith) f.0 in
      let s2 = further s1 (c + 2) (omega arith) (omega arith) f.1 in
      let s3 = further s2 (c + 3) (omega arith) (omega arith) f.2 in
      further s3 (c + 4) (omega arith) (omega arith) f.3

-- a corner of another vertex has another directed edge
other_from : (b c : Bool) → b ≡ false → b && c ≡ false
other_from b c e = rw e refl

pub other-window : (o k e : List ℕ) (c : ℕ) → is_at k (get_or e 0 0) c ≡ false → window_is o k e c ≡ false
unfolding window
other-window o k e c h = other_from _ _ h

-- a search for a window may pass over what such a scan passes over
pub skips : (o k e : List ℕ) {n i r : ℕ} → Searched (window_is o k e) n i → Skipped (is_at k (get_or e 0 0)) n i r → Searched (window_is o k e) n r
skips o k e {n} {i} {r} s t =
    record { within = t.within; below = λ d h. ⊎_elim (λ w. s.below d w) (λ w. other-window o k e d (t.between d w h)) (lt-or-le d i) }

-- the faces before f end at or before corner c
abbrev pub Behind : List ℕ → ℕ → ℕ → Type 0
Behind o c f = Searched (λ g. ltb c (end o g)) (faces o) f

-- no face starts before an earlier one
abbrev pub Rising : List ℕ → Type 0
Rising o = (f g : ℕ) → f ≤ g → g ≤ faces o → start o f ≤ start o g

-- a later face that starts at or before c will do as well
pub behind-past : (o : List ℕ) (c f g : ℕ) → Rising o → Behind o c f → g ≤ faces o → start o g ≤ c → Behind o c g
behind-past o c f g r s h l =
    record { within = h; below = λ j a. ⊎_elim (λ w. s.below j w) (λ w. le-ltb c (end o j) (le_trans (r (j + 1) g (omega arith) h) l)) (lt-or-le j f) }

-- and so before a later corner
pub behind-later : (o : List ℕ) (c d f : ℕ) → Behind o c f → c ≤ d → Behind o d f
behind-later o c d f s h = record { within = s.within; below = λ g l. let w : end o g ≤ c = ltb-false _ _ (s.below g l) in le-ltb d (end o g) (let z : end o g ≤ d = omega (arith, w, h) in z) }

-- its own face is the first that does not
behind-own : (o : List ℕ) (c : ℕ) → Behind o c (face_of o c)
unfolding face_of
behind-own o c = let i = first-is (λ g. ltb c (end o g)) (faces o) in record { within = i.within; below = i.below }

pub behind-next : (o : List ℕ) (c : ℕ) → Behind o (c + 1) (face_of o c)
behind-next o c = behind-later o c (c + 1) (face_of o c) (behind-own o c) (omega arith)
