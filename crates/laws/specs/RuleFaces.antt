-- Laws of one face, a corner more stored and the face as a loop leaves it, that no proof of rule calls. Assumes nothing.
use Rattle.std.specs.Prelude.{◌≡◌, refl, Bool, true, cond, List, [], ◌∷◌, ◌++◌, ℕ, ◌+◌, ◌-◌, ◌<◌, ◌≤◌, length, get_or, take, set}
use Rattle.std.proofs.Common.{sym, ◌∙◌, ap, ap₂, subst, arith}
use Rattle.std.proofs.lemmas.List.Edits.{sets}
use Rattle.slices.specs.Lists.{each, sets-push}
use Rattle.mesh.specs.Mesh.{start, end, arity, around}
use Rattle.mesh.specs.Tests.{faces_at, lowest}
use Rattle.rule.specs.Rule.{made, inner, outer, backward, splits}
use Rattle.rule.specs.Slots.{length-made}
use Rattle.rule.specs.Faces.{length-inner, length-backward, length-outer}
use Rattle.rule.specs.Wrote.{Wrote, Room, Space, Ended, wrote_one, room-one, room-each}
use Rattle.rule.specs.declared.Slot.{Slot}
use Rattle.rule.specs.declared.At.{At}
use Rattle.laws.specs.RuleSlots.{made_more}
use Rattle.laws.specs.RuleWrote.{room-yes}

-- one store more
push : (k j x y : ℕ) (old l xs : List ℕ) → length xs ≡ j → l ≡ sets old k xs → x ≡ y → set l (k + j) x ≡ sets old k (xs ++ (y ∷ []))
push k j x y old l xs e p q =
    ap₂ (λ (t : List ℕ) (i : ℕ). set t i x) p (ap (λ (i : ℕ). k + i) (sym e))
    ∙ sets-push old k xs x
    ∙ ap (λ (z : ℕ). sets old k (xs ++ (z ∷ []))) q

-- ---- a face that slots make

pub push-made :
    (v : Slot → ℕ → ℕ) (rule : List Slot) (d : Slot) (k j c x : ℕ) (old l : List ℕ) → j < length rule → l ≡ sets old k (made v (take j rule) c) → x ≡ v (get_or rule j d) c →
    set l (k + j) x ≡ sets old k (made v (take (j + 1) rule) c)
push-made v rule d k j c x old l h p q =
    push k j x (v (get_or rule j d) c) old l (made v (take j rule) c) (length-made v rule j c (omega arith)) p q ∙ ap (sets old k) (sym (made_more v rule d j c h))

pub wrote-made :
    {o c o' l : List ℕ} {a a' : At} (v : Slot → ℕ → ℕ) (rule : List Slot) (n d j : ℕ) → n ≤ length rule → j ≡ n → l ≡ sets c a.cors (made v (take j rule) d) →
    Ended o a n o' a' → Wrote o c a (made v (take n rule) d ∷ []) o' l a'
wrote-made {o} {c} {o'} {l} {a} {a'} v rule n d j h e p q =
    wrote_one (made v (take n rule) d) (length-made v rule n d h) q (p ∙ ap (λ (t : ℕ). sets c a.cors (made v (take t rule) d)) e)

pub room-up :
    {o c : List ℕ} {a : At} (v : Slot → ℕ → ℕ) (rule : List Slot) (n d : ℕ) (t : Bool) → n ≤ length rule → t ≡ true → Room o c a (cond t (made v (take n rule) d ∷ []) []) → Space o c a n
room-up v rule n d t h e r = room-one (made v (take n rule) d) (length-made v rule n d h) (room-yes t (made v (take n rule) d ∷ []) [] e r)

-- such a face at each corner of a face

pub splits-room :
    {o c o' c' : List ℕ} {a a' : At} (v : Slot → ℕ → ℕ) (rule : List Slot) (p : List ℕ) (n f lo hi j : ℕ) → n ≤ length rule → lo ≡ start p f → hi ≡ end p f → j < hi - lo →
    Room o c a (splits v (take n rule) p f) → Wrote o c a (each (λ i. made v (take n rule) (lo + i) ∷ []) j) o' c' a' → Space o' c' a' n
unfolding splits
splits-room {o} {c} {o'} {c'} {a} {a'} v rule p n f lo hi j h u w l r q =
    let z : each (λ (i : ℕ). made v (take n rule) (start p f + i) ∷ []) (arity p f) ≡ each (λ i. made v (take n rule) (lo + i) ∷ []) (hi - lo) = rw (u, w) refl in
    room-one (made v (take n rule) (lo + j)) (length-made v rule n (lo + j) h)
    (room-each (λ (i : ℕ). made v (take n rule) (lo + i) ∷ []) j (hi - lo) l (subst (Room o c a) z r) q)

pub splits-done :
    {o c o' c' : List ℕ} {a a' : At} (v : Slot → ℕ → ℕ) (rule : List Slot) (p : List ℕ) (f lo hi j : ℕ) → lo ≡ start p f → hi ≡ end p f → j ≡ hi - lo →
    Wrote o c a (each (λ i. made v rule (lo + i) ∷ []) j) o' c' a' → Wrote o c a (splits v rule p f) o' c' a'
unfolding splits
splits-done {o} {c} {o'} {c'} {a} {a'} v rule p f lo hi j u w e q =
    let z : each (λ (i : ℕ). made v rule (lo + i) ∷ []) j ≡ splits v rule p f = rw (e, u, w) refl in
    subst (λ (fs : List (List ℕ)). Wrote o c a fs o' c' a') z q

-- ---- a face inside a face

pub wrote-inner :
    {o c o' l : List ℕ} {a a' : At} (v : Slot → ℕ → ℕ) (p : List ℕ) (s : Slot) (f lo hi j : ℕ) → lo ≡ start p f → hi ≡ end p f → j ≡ hi - lo →
    l ≡ sets c a.cors (each (λ i. v s (lo + i) ∷ []) j) → Ended o a (hi - lo) o' a' → Wrote o c a (inner v p s f ∷ []) o' l a'
unfolding inner
wrote-inner {o} {c} {o'} {l} {a} {a'} v p s f lo hi j u w e q t =
    let m : each (λ (i : ℕ). v s (lo + i) ∷ []) j ≡ inner v p s f = rw (e, u, w) refl in
    let z : arity p f ≡ hi - lo = ap₂ (λ (x y : ℕ). x - y) (sym w) (sym u) in
    wrote_one (inner v p s f) (length-inner v p s f ∙ z) t (q ∙ ap (sets c a.cors) m)

-- ---- a face turned over

pub wrote-backward :
    {o c o' l : List ℕ} {a a' : At} (p k : List ℕ) (f lo hi j : ℕ) → lo ≡ start p f → hi ≡ end p f → j ≡ hi - lo →
    l ≡ sets c a.cors (each (λ i. get_or k (hi - 1 - i) 0 ∷ []) j) → Ended o a (hi - lo) o' a' → Wrote o c a (backward p k f ∷ []) o' l a'
unfolding backward
wrote-backward {o} {c} {o'} {l} {a} {a'} p k f lo hi j u w e q t =
    let m : each (λ (i : ℕ). get_or k (hi - 1 - i) 0 ∷ []) j ≡ backward p k f = rw (e, u, w) refl in
    let z : arity p f ≡ hi - lo = ap₂ (λ (x y : ℕ). x - y) (sym w) (sym u) in
    wrote_one (backward p k f) (length-backward p k f ∙ z) t (q ∙ ap (sets c a.cors) m)

-- ---- a face round a vertex

pub wrote-outer :
    {o c o' l : List ℕ} {a a' : At} (v : Slot → ℕ → ℕ) (p k : List ℕ) (s : Slot) (u m d j : ℕ) → m ≡ faces_at k u → d ≡ lowest k u → j ≡ m →
    l ≡ sets c a.cors (each (λ i. v s (around p k d i) ∷ []) j) → Ended o a m o' a' → Wrote o c a (outer v p k s u ∷ []) o' l a'
unfolding outer
wrote-outer {o} {c} {o'} {l} {a} {a'} v p k s u m d j f g e q t =
    let n : each (λ (i : ℕ). v s (around p k d i) ∷ []) j ≡ outer v p k s u = rw (e, f, g) refl in
    wrote_one (outer v p k s u) (length-outer v p k s u ∙ sym f) t (q ∙ ap (sets c a.cors) n)
