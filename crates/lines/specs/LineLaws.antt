-- Laws of a report's lines: the loop over the steps, and that its lines are those of the recipe's trail. Assumes nothing.
use Rattle.std.specs.Prelude.{Ok, Err}
use Rattle.std.specs.Prelude.{◌≡◌}
use Rattle.std.proofs.Math.Path.{refl, sym, ap, ap₂, subst}
use Rattle.std.proofs.Common.{◌∙◌}
use mathlib.Core.List.{List, [], ◌∷◌, ◌++◌, append_assoc, append-nil}
use Prim.Native.Nat.{ℕ, zero, suc, ◌+◌, ◌-◌, ◌*◌, ◌<◌, ◌≤◌}
use native.Mathlib.Omega.{arith}
use Rattle.std.proofs.Math.ListN.{length, get_or, length-append, get_or-append}
use Rattle.std.proofs.Math.Seq.{get_or-append_seam}
use borrow.Author.Tests.{lt-ltb, le-ltb, ne_eqb}
use Rattle.slices.specs.Lists.{over, each, each_more}
use Rattle.text.specs.Text.{Put}
use Rattle.text.specs.TextLaws.{put-none, put_then}
use Rattle.engine.specs.Result.{Outcome, refused, result}
use Rattle.engine.specs.declared.Counts.{Counts}
use Rattle.engine.specs.Answer.{Answer}
use Rattle.engine.specs.Answer.{Done, Refused}
use Rattle.steps.specs.Steps.{Mesh, Room, Masks, mesh, step_on}
use Rattle.steps.specs.declared.Step.{Step}
use Rattle.rule.specs.Flat.{flat, offsets_of}
use Rattle.copies.specs.Copy.{copy_outcome}
use Rattle.chain.specs.Trail.{Trail, trail, lastly, onward, answer_to}
use Rattle.chain.specs.declared.Row.{Row}
use Rattle.chain.specs.declared.Ran.{Ran}
use Rattle.totals.specs.Totals.{no_row, counts_in, answer_at}
use Rattle.lines.specs.Lines.{step_line, refused_line, row_lines, end_line, lines_of}
use Rattle.lines.specs.Told.{code_at, goes_on, steps_from, done_line, steps_before, run_lines}

-- ---- the loop: k of n steps are written

pub record Upto (r : Ran) (n k : ℕ) (t : List ℕ) (at : ℕ) (t' : List ℕ) : Type 0 where
  pub put : Put (steps_before r k) 0 t at t'
  pub rest : steps_before r k ++ steps_from r k (n - k) ≡ steps_from r 0 n
  pub room : at ≤ 150 * k
  pub few : k ≤ n

one_less : (n k : ℕ) → k < n → n - k ≡ suc (n - (k + 1))
one_less n k h = omega arith

pub upto-start : (r : Ran) (n : ℕ) (t : List ℕ) → Upto r n 0 t 0 t
unfolding steps_before each
upto-start r n t = record { put = put-none 0 t; rest = ap (steps_from r 0) (omega arith); room = omega arith; few = omega arith }

module _ {r : Ran} {n k : ℕ} {t : List ℕ} {at : ℕ} {t' : List ℕ} (u : Upto r n k t at t') where
  from-here : k < n → steps_from r k (n - k) ≡ goes_on r k (answer_at r k) (steps_from r (k + 1) (n - (k + 1)))
  unfolding steps_from
  from-here h = ap (steps_from r k) (one_less n k h)

  pub upto-on : {a : Answer} {c : Counts} {code at' : ℕ} {t'' : List ℕ} → k < n → a ≡ answer_at r k → a ≡ Done c → code ≡ code_at r k →
      Put (step_line (k + 1) code c) at t' at' t'' → at' ≤ at + 150 → Upto r n (k + 1) t at' t''
  unfolding steps_before
  upto-on {a} {c} {code} {at'} {t''} h e d w p l =
      let line : List ℕ = step_line (k + 1) (code_at r k) c in
      let s : steps_before r (k + 1) ≡ steps_before r k ++ line =
      each_more (λ i. done_line r i (answer_at r i)) k ∙ ap (λ (x : Answer). steps_before r k ++ done_line r k x) (sym e ∙ d) in
      let f : steps_from r k (n - k) ≡ line ++ steps_from r (k + 1) (n - (k + 1)) =
      from-here h ∙ ap (λ (x : Answer). goes_on r k x (steps_from r (k + 1) (n - (k + 1)))) (sym e ∙ d) in
      let q : Put line at t' at' t'' = subst (λ (j : ℕ). Put (step_line (k + 1) j c) at t' at' t'') w p in
      record {
        put = subst (λ (l : List ℕ). Put l 0 t at' t'') (sym s) (put_then u.put q);
        rest =
            ap (λ (l : List ℕ). l ++ steps_from r (k + 1) (n - (k + 1))) s
            ∙ append_assoc (steps_before r k) line (steps_from r (k + 1) (n - (k + 1)))
            ∙ ap (λ (l : List ℕ). steps_before r k ++ l) (sym f)
            ∙ u.rest;
        room = omega (arith, u.room);
        few = omega arith;
      }

  pub upto-stop : {a : Answer} {number place step at' : ℕ} {t'' : List ℕ} → k < n → a ≡ answer_at r k → a ≡ Refused number place step →
      Put (end_line a) at t' at' t'' → Put (steps_from r 0 n) 0 t at' t''
  upto-stop {a} {number} {place} {step} {at'} {t''} h e d p =
      let f : steps_from r k (n - k) ≡ refused_line step number place =
      from-here h ∙ ap (λ (x : Answer). goes_on r k x (steps_from r (k + 1) (n - (k + 1)))) (sym e ∙ d) in
      let q : Put (refused_line step number place) at t' at' t'' = subst (λ (x : Answer). Put (end_line x) at t' at' t'') d p in
      subst (λ (l : List ℕ). Put l 0 t at' t'') (ap (λ (l : List ℕ). steps_before r k ++ l) (sym f) ∙ u.rest) (put_then u.put q)

  pub upto-end : n ≤ k → Put (steps_from r 0 n) 0 t at t'
  unfolding steps_from
  upto-end h =
      let z : n - k ≡ 0 = omega arith in
      subst (λ (l : List ℕ). Put l 0 t at t') (sym (append-nil (steps_before r k)) ∙ ap (λ (m : ℕ). steps_before r k ++ steps_from r k m) (sym z) ∙ u.rest) u.put

-- ---- a recipe of n steps with this answer and k finished steps: all are done, or one is refused, or there are none

abbrev pub Ends : Answer → ℕ → ℕ → Type 0
Ends (Ok c) k n = k ≡ n
Ends (Err r) k n = (k ≤ n) × (0 < n → k < n)

ends_more : (a : Answer) (k n : ℕ) → 0 < n → Ends a k n → Ends a (suc k) (suc n)
ends_more (Ok c) k n h e = ap suc e
ends_more (Err r) k n h e = let l = e.1 h in (omega arith, λ _. omega arith)

ends-copy : (q : Outcome) → Ends (answer_to (record { rows = []; step = 0; end = q })) 0 0
ends-copy (refused n p) = (omega arith, λ h. h)
ends-copy (result fs xs) = refl

ends_last : (s : Step) (i : ℕ) (q : Outcome) → Ends (answer_to (lastly s i q)) (length (lastly s i q).rows) 1
ends_last s i (refused n p) = (omega arith, λ _. omega arith)
ends_last s i (result fs xs) = refl

ends_on : (s : Step) (i n : ℕ) (q : Outcome) (go : Mesh → Trail) → 0 < n → ((v : Mesh) → Ends (answer_to (go v)) (length (go v).rows) n) →
    Ends (answer_to (onward s i q go)) (length (onward s i q go).rows) (suc n)
ends_on s i n (refused a b) go h e = (omega arith, λ _. omega arith)
ends_on s i n (result fs xs) go h e =
    let v : Mesh = mesh (offsets_of fs) (flat fs) xs in
    ends_more (answer_to (go v)) (length (go v).rows) n h (e v)

pub trail-ends : (m : Masks) (l : List Step) (i : ℕ) (w : Mesh) (a b z : Room) → Ends (answer_to (trail m l i w a b z)) (length (trail m l i w a b z).rows) (length l)
unfolding trail
trail-ends m [] i w a b z = ends-copy (copy_outcome w.offsets w.corners w.coords z.offsets z.corners z.coords)
trail-ends m (s ∷ []) i w a b z = ends_last s i (step_on m s w z)
trail-ends m (s ∷ (t ∷ ts)) i w a b z = ends_on s i (length (t ∷ ts)) (step_on m s w a) _ (omega arith) (λ (v : Mesh). trail-ends m (t ∷ ts) (i + 1) v b a z)

-- ---- the lines are those of the trail

module _ (rows more : List Row) (r : Ran) (n : ℕ) (has : r.rows ≡ rows ++ more) (done : r.done ≡ length rows) (few : length rows ≤ 16) where
  -- the answer of a finished step, and of the one after them
  at_done : (before : List Row) (x : Row) (after : List Row) → rows ≡ before ++ (x ∷ after) →
      (answer_at r (length before) ≡ Done (counts_in x)) × (code_at r (length before) ≡ x.code)
  unfolding answer_at code_at
  at_done before x after e =
      let l : length rows ≡ length before + suc (length after) = ap length e ∙ length-append before (x ∷ after) in
      let h : length before < r.done = omega arith in
      let g : length before < 16 = omega arith in
      let y : get_or r.rows (length before) no_row ≡ x =
      ap (λ (l : List Row). get_or l (length before) no_row) has
      ∙ get_or-append rows more no_row (length before) (omega arith)
      ∙ ap (λ (l : List Row). get_or l (length before) no_row) e
      ∙ get_or-append_seam before x after no_row in
      (rw (lt-ltb _ _ h, lt-ltb _ _ g, y) refl, rw (lt-ltb _ _ g, y) refl)

  at-end : answer_at r (length rows) ≡ r.answer
  unfolding answer_at
  at-end = rw (le-ltb (length rows) r.done (omega arith)) refl

  last-are : (a : Answer) → r.answer ≡ a → Ends a (length rows) n → (0 < n) → (m : ℕ) → length rows + m ≡ n → steps_from r (length rows) m ≡ end_line a
  unfolding steps_from
  last-are (Ok c) e d h zero q = refl
  last-are (Ok c) e d h (suc m) q = absurd (omega (arith, d))
  last-are (Err r) e d h zero q = let l = d.1 h in absurd (omega arith)
  last-are (Err r1) e d h (suc m) q = ap (λ (x : Answer). goes_on r (length rows) x (steps_from r (length rows + 1) m)) (at-end ∙ e)

  steps-are : (a : Answer) → r.answer ≡ a → Ends a (length rows) n → (0 < n) → (before after : List Row) (m : ℕ) → rows ≡ before ++ after → length before + m ≡ n →
      steps_from r (length before) m ≡ row_lines (length before + 1) after ++ end_line a
  unfolding steps_from row_lines
  steps-are a e d h before [] m p q =
      let b : before ≡ rows = sym (p ∙ append-nil before) in
      ap (λ (l : List Row). steps_from r (length l) m) b ∙ last-are a e d h m (ap (λ (l : List Row). length l + m) (sym b) ∙ q)
  steps-are a e d h before (x ∷ after) zero p q = absurd (too_few a d)
    where
      too_few : (a : Answer) → Ends a (length rows) n → ⊥
      too_few (Ok c) d = omega (arith, d, q, ap length p, length-append before (x ∷ after))
      too_few (Err r) d = omega (arith, d.0, q, ap length p, length-append before (x ∷ after))
  steps-are a e d h before (x ∷ after) (suc m) p q =
      let here = at_done before x after p in
      let now : List Row = before ++ (x ∷ []) in
      let l : length now ≡ length before + 1 = length-append before (x ∷ []) in
      let on : steps_from r (length before + 1) m ≡ row_lines (length before + 1 + 1) after ++ end_line a =
      subst (λ (k : ℕ). steps_from r k m ≡ row_lines (k + 1) after ++ end_line a) l
      (steps-are a e d h now after m (p ∙ sym (append_assoc before (x ∷ []) after)) (omega (arith, l, q))) in
      ap (λ (y : Answer). goes_on r (length before) y (steps_from r (length before + 1) m)) here.0
      ∙ ap₂ (λ (j : ℕ) (l : List ℕ). step_line (length before + 1) j (counts_in x) ++ l) here.1 on
      ∙ sym (append_assoc (step_line (length before + 1) x.code (counts_in x)) (row_lines (length before + 1 + 1) after) (end_line a))

none-are : (rows : List Row) → length rows ≤ 0 → rows ≡ []
none-are [] h = refl
none-are (x ∷ rows) h = absurd (omega arith)

pub lines_are : (t : Trail) (more : List Row) (r : Ran) (n : ℕ) → r.answer ≡ answer_to t → r.rows ≡ over t.rows more → r.done ≡ length t.rows → length t.rows ≤ 16 →
    Ends (answer_to t) (length t.rows) n → run_lines r n ≡ lines_of t
unfolding run_lines lines_of row_lines
lines_are t more r zero a e d f w = ap end_line a ∙ ap (λ (l : List Row). row_lines 1 l ++ end_line (answer_to t)) (sym (none-are t.rows (few (answer_to t) w)))
  where
    few : (a : Answer) → Ends a (length t.rows) 0 → length t.rows ≤ 0
    few (Ok c) w = omega (arith, w)
    few (Err r) w = w.0
lines_are t more r (suc n) a e d f w = rw (ne_eqb (suc n) 0 (λ (z : suc n ≡ 0). omega (arith, z))) (steps-are t.rows _ r (suc n) e d f (answer_to t) a w (omega arith) [] t.rows (suc n) refl (omega arith))
