-- The longest good file has 11,468 bytes: a reader that is handed one byte more of a file settles it. Assumes nothing.
use Rattle.std.specs.Prelude.{Ok, Err}
use Rattle.std.specs.Prelude.{◌≡◌, Bool, true, false, List, length, take, leb}
use Rattle.std.proofs.Math.Path.{refl, sym, ap}
use Rattle.std.proofs.Common.{◌∙◌, mul-suc, arith, length-take-le, take_all, get_or-take}
use Prim.Native.Nat.{ℕ, zero, suc, ◌+◌, ◌-◌, ◌*◌, ◌<◌, ◌≤◌}
use Rattle.std.proofs.Math.Nat.{mul-le-mul_left}
use borrow.Author.Tests.{leb-true, leb-false, le-leb}
use Rattle.words.specs.Words.{word_at, whole_at}
use Rattle.parts.specs.Part.{Part}
use Rattle.parts.specs.Part.{Has}
use Rattle.parts.specs.Parts.{and_then, count_at, step_says, whole_says, items, section, faces}
use Rattle.parts.specs.Laws.{count-has, section-has}
use Rattle.panel.specs.Filed.{Filed}
use Rattle.panel.specs.Filed.{Fine}
use Rattle.panel.specs.Format.{settle, positions_at, faces_at, end_at, ending, checked, reading_as, reading, lent}
use Rattle.panel.specs.Laws.{faces-has, KnownAs, known, fitted_of, reading-is}
use Rattle.panel.specs.Ends.{end-missed, fit_all}

-- ---- a part that is the same, and what comes after it

then_same : (p q : Part) (k l : ℕ → Part) → p ≡ q → ((n : ℕ) → p ≡ Has n → k n ≡ l n) → and_then p k ≡ and_then q l
then_same (Ok n) q k l e h = h n refl ∙ ap (λ (x : Part). and_then x l) e
then_same (Err r) q k l e h = ap (λ (x : Part). and_then x l) e

settle-same : (p q : Part) (k l : ℕ → Filed) → p ≡ q → ((n : ℕ) → p ≡ Has n → k n ≡ l n) → settle p k ≡ settle q l
settle-same (Ok n) q k l e h = h n refl ∙ ap (λ (x : Part). settle x l) e
settle-same (Err r) q k l e h = ap (λ (x : Part). settle x l) e

items-same :
    (say says : ℕ → Part) (size at n : ℕ) → ((i : ℕ) → i + size ≤ 11468 → say i ≡ says i) → at + size * n ≤ 11468 → items say size at n ≡ items says size at n
unfolding items
items-same say says size at zero h l = refl
items-same say says size at (suc n) h l =
    let w = mul-suc size n in
    then_same (say at) (says at) _ _ (h at (omega arith)) (λ _ _. items-same say says size (at + size) n h (omega arith))

-- ---- two files that are longer, with the same words in the first 11,468 bytes

module _ (s t : List ℕ) (long : 11468 < length s) (long' : 11468 < length t) (same : (at : ℕ) → at + 4 ≤ 11468 → word_at s at ≡ word_at t at) where
  whole_same : (at size : ℕ) → at + size ≤ 11468 → whole_at s at size ≡ whole_at t at size
  unfolding whole_at
  whole_same at size h = le-leb (at + size) (length s) (omega arith) ∙ sym (le-leb (at + size) (length t) (omega arith))

  count_same : (at most : ℕ) → at + 4 ≤ 11468 → count_at s at most ≡ count_at t at most
  unfolding count_at
  count_same at most h = rw (whole_same at 4 h, same at h) refl

  step_same : (at : ℕ) → at + 16 ≤ 11468 → step_says s at ≡ step_says t at
  unfolding step_says
  step_same at h =
      rw (whole_same at 16 h, same at (omega arith), same (at + 4) (omega arith), same (at + 8) (omega arith), same (at + 12) (omega arith)) refl

  item-same : (size at : ℕ) → at + size ≤ 11468 → whole_says s size at ≡ whole_says t size at
  unfolding whole_says
  item-same size at h = rw (whole_same at size h) refl

  section-same :
      (at most size : ℕ) (say says : ℕ → Part) → ((i : ℕ) → i + size ≤ 11468 → say i ≡ says i) → at + 4 + size * most ≤ 11468 →
      section s at most size say ≡ section t at most size says
  unfolding section
  section-same at most size say says h l =
      then_same (count_at s at most) (count_at t at most) _ _ (count_same at most (omega arith)) (λ n e.
      let w = mul-le-mul_left size (count-has s at most n e).1 in
      then_same (items say size (at + 4) n) (items says size (at + 4) n) _ _ (items-same say says size (at + 4) n h (omega arith)) (λ _ _. refl))

  faces-same : (at sum n : ℕ) → sum ≤ 1200 → at + 4 * n + 4 * (1200 - sum) ≤ 11468 → faces s at sum n ≡ faces t at sum n
  unfolding faces
  faces-same at sum zero h l = refl
  faces-same at sum (suc n) h l =
      then_same (section s at (1200 - sum) 4 (whole_says s 4)) (section t at (1200 - sum) 4 (whole_says t 4)) _ _
      (section-same at (1200 - sum) 4 (whole_says s 4) (whole_says t 4) (item-same 4) (omega arith)) (λ a e.
      let w : a ≤ 1200 - sum = (section-has s at (1200 - sum) 4 a (whole_says s 4) e).1 in
      faces-same (at + 4 + 4 * a) (sum + a) n (omega arith) (omega arith))

  ending-same : (n v f c : ℕ) → n ≤ 16 → v ≤ 400 → f ≤ 400 → c ≤ 1200 → ending s n v f c ≡ ending t n v f c
  ending-same n v f c hn hv hf hc =
      sym (end-missed s n v f c (end_at n v f c) refl (λ e. omega arith)) ∙ end-missed t n v f c (end_at n v f c) refl (λ e. omega arith)

  checked-same : checked s ≡ checked t
  unfolding checked
  checked-same =
      settle-same (section s 0 16 16 (step_says s)) (section t 0 16 16 (step_says t)) _ _
      (section-same 0 16 16 (step_says s) (step_says t) step_same (omega arith)) (λ n en.
      let hn : n ≤ 16 = (section-has s 0 16 16 n (step_says s) en).1 in
      settle-same (section s (positions_at n) 400 12 (whole_says s 12)) (section t (positions_at n) 400 12 (whole_says t 12)) _ _
      (section-same (positions_at n) 400 12 (whole_says s 12) (whole_says t 12) (item-same 12) (omega arith)) (λ v ev.
      let hv : v ≤ 400 = (section-has s (positions_at n) 400 12 v (whole_says s 12) ev).1 in
      settle-same (count_at s (faces_at n v) 400) (count_at t (faces_at n v) 400) _ _ (count_same (faces_at n v) 400 (omega arith)) (λ f ef.
      let hf : f ≤ 400 = (count-has s (faces_at n v) 400 f ef).1 in
      settle-same (faces s (faces_at n v + 4) 0 f) (faces t (faces_at n v + 4) 0 f) _ _ (faces-same (faces_at n v + 4) 0 f (omega arith) (omega arith)) (λ c ec.
      ending-same n v f c hn hv hf (faces-has s (faces_at n v + 4) 0 f c (omega arith) ec).1))))

  -- neither is a good file, so nothing is read out of either
  refused-same : (q : Filed) → KnownAs s q → reading_as s q ≡ reading_as t q
  refused-same (Ok h) k = absurd (omega arith)
  refused-same (Err r) k = refl

  reading-same : reading s ≡ reading t
  unfolding reading
  reading-same = refused-same (checked s) (known s) ∙ ap (reading_as t) checked-same

-- ---- the first bytes of a file

word-taken : (s : List ℕ) (m at : ℕ) → at + 4 ≤ m → word_at (take m s) at ≡ word_at s at
unfolding word_at
word-taken s m at h =
    rw (get_or-take m s at 0 (omega arith), get_or-take m s (at + 1) 0 (omega arith), get_or-take m s (at + 2) 0 (omega arith), get_or-take m s (at + 3) 0 (omega arith)) refl

pub front-reading : (s : List ℕ) (m : ℕ) → 11469 ≤ m → reading (take m s) ≡ reading s
front-reading s m h = go (leb (length s) m) refl
  where
    go : (b : Bool) → leb (length s) m ≡ b → reading (take m s) ≡ reading s
    go true e = ap reading (take_all m s (leb-true (length s) m e))
    go false e =
        let l : m < length s = leb-false (length s) m e in
        let w = length-take-le m s (omega arith) in
        reading-same (take m s) s (omega arith) (omega arith) (λ at k. word-taken s m at (omega arith))

-- ---- what a good file needs

fitted-all : (s : List ℕ) (lo lk lx : ℕ) (q : Filed) → KnownAs s q → 401 ≤ lo → 1200 ≤ lk → 1200 ≤ lx → fitted_of q lo lk lx ≡ q
fitted-all s lo lk lx (Err r) k ho hk hx = refl
fitted-all s lo lk lx (Ok h) k ho hk hx =
    sym (fit_all (Fine h.steps h.positions h.faces h.corners) lo lk lx h.faces h.corners h.positions refl refl (omega arith) refl (omega arith) refl (omega arith))

-- number 13 does not come where as much is lent as the longest file needs
pub room-enough : (s : List ℕ) (lo lk lx : ℕ) → 401 ≤ lo → 1200 ≤ lk → 1200 ≤ lx → lent (reading s) lo lk lx ≡ reading s
unfolding reading
room-enough s lo lk lx ho hk hx =
    reading-is s lo lk lx (checked s) _ refl refl ∙ ap (reading_as s) (fitted-all s lo lk lx (checked s) (known s) ho hk hx)
