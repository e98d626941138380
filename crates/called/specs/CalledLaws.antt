-- Laws of a recipe of steps given as words and of a list given by a number, in the shape of the code's needs. Assumes nothing.
use Rattle.std.specs.Prelude.{◌≡◌, Bool, ◌&&◌, List, [], map, ℕ, ◌<◌, ◌≤◌, length, take, Option, Some, None, is_some}
use Rattle.std.specs.Bool.{then_some}
use Rattle.std.proofs.Math.Path.{refl, ap, subst}
use Rattle.std.proofs.Common.{sym, ◌∙◌, ap₂, true≢false, take_all, lt-ltb}
use Rattle.std.proofs.Math.Bool.{true, false, cond, not}
use Rattle.std.proofs.Math.Dec.{ltb}
use Rattle.slices.specs.First.{any}
use Rattle.std.specs.Borrow.{Bor}
use Rattle.mesh.specs.Lent.{IsSameRoom}
use Rattle.mesh.specs.declared.MeshMut.{MeshMut}
use Rattle.slices.specs.Lists.{over}
use Rattle.operators.specs.Number.{Number}
use Rattle.engine.specs.Answer.{Answer}
use Rattle.engine.specs.Answer as answers
use Rattle.steps.specs.Steps.{Mesh, Room}
use Rattle.steps.specs.declared.Step.{Step}
use Rattle.chain.specs.Lent.{held, space}
use Rattle.chain.specs.Trail.{Trail, stopped, Zero}
use Rattle.runner.specs.Run.{Wipes}
use Rattle.named.specs.Named.{list_masks}
use Rattle.named.specs.declared.NamedList.{NamedList}
use Rattle.lists.specs.Lists.{list_trail, numbers_in, Listed, Lists}
use Rattle.lists.specs.ListLaws.{unread}
use Rattle.recipes.specs.Recipe.{recipe_trail, flat_rows, Entered, Enters}
use Rattle.recipes.specs.RecipeLaws.{recipe-front}
use Rattle.panel.specs.Format.{Contents, holds, reading, fillers}
use Rattle.panel.specs.Laws.{length_run}
use Rattle.given.specs.Given.{from_words, unknown, steps_in, strange, strange_at, four_at}
use Rattle.given.specs.GivenLaws.{strange-by, strange_told, strange_not, fours_of, file-given}
use Rattle.called.specs.Called.{given_trail, known_list, list_named, coded_trail}

-- ---- the two ways through a recipe

module _ (lent : ℕ) (ws : List (List ℕ)) (w : Mesh) (ra rb rz : Room) where
  trail-strange : strange ws ≡ true → given_trail lent ws w ra rb rz ≡ stopped 17 (strange_at ws)
  unfolding given_trail
  trail-strange h = let s = strange-by (ltb 16 (length ws)) (any (unknown ws) (length ws)) h in rw (s.0, s.1) refl

  trail-plain : strange ws ≡ false → given_trail lent ws w ra rb rz ≡ recipe_trail lent (steps_in ws) (length ws) w ra rb rz
  unfolding given_trail recipe_trail
  trail-plain h = by (ltb 16 (length ws)) (any (unknown ws) (length ws)) refl h
    where
      by : (x y : Bool) → ltb 16 (length ws) ≡ x → not x && y ≡ false →
          cond x (stopped 2 3) (cond y (stopped 17 (strange_at ws)) (recipe_trail lent (steps_in ws) (length ws) w ra rb rz)) ≡ recipe_trail lent (steps_in ws) (length ws) w ra rb rz
      by true y e q = rw e refl
      by false true e q = absurd (true≢false q)
      by false false e q = refl

  trail-many : 16 < length ws → given_trail lent ws w ra rb rz ≡ stopped 2 3
  unfolding given_trail
  trail-many h = rw (lt-ltb 16 (length ws) h) refl

-- refused before the first step
stopped-entered :
    {n p : ℕ} {l : List ℕ} {a b a' b' z : Mesh} → Zero a.offsets a.corners a.coords a'.offsets a'.corners a'.coords →
    Zero b.offsets b.corners b.coords b'.offsets b'.corners b'.coords → Entered (stopped n p) (flat_rows []) l a b z (answers.Refused n p 0) l a' b' z
unfolding flat_rows
stopped-entered f g = record { ended = record { answer = refl; offsets = refl; corners = refl; coords = refl }; first = f; second = g; ledger = refl }

same-room : (m : MeshMut) → IsSameRoom m m
same-room m = record { offsets = refl; corners = refl; coords = refl }

module _ (lent : ℕ) (ws : List (List ℕ)) (w : Mesh) {l : List ℕ} {a b z a' b' : MeshMut} {r : Answer} (f : Wipes a a') (g : Wipes b b') where
  stopped-enters : (n p : ℕ) → given_trail lent ws w (space a) (space b) (space z) ≡ stopped n p → r ≡ answers.Refused n p 0 → Enters flat_rows (given_trail lent ws w) l a b z r l a' b' z
  stopped-enters n p e q = record {
    entered = rw (e, q) (stopped-entered f.zero g.zero);
    kept = record { first = f.kept; second = g.kept; output = same-room z };
  }

  pub enters-many : 16 < length ws → r ≡ answers.Refused 2 3 0 → Enters flat_rows (given_trail lent ws w) l a b z r l a' b' z
  enters-many h q = stopped-enters 2 3 (trail-many lent ws w (space a) (space b) (space z) h) q

  pub enters-strange : (p : ℕ) → Some p ≡ cond (strange ws) (Some (strange_at ws)) None → r ≡ answers.Refused 17 p 0 → Enters flat_rows (given_trail lent ws w) l a b z r l a' b' z
  enters-strange p e q =
      let s = strange_told ws e in
      stopped-enters 17 p (trail-strange lent ws w (space a) (space b) (space z) s.0 ∙ ap (stopped 17) (sym s.1)) q

pub enters-plain :
    (lent : ℕ) (ws : List (List ℕ)) (w : Mesh) {s : List Step} {l l' : List ℕ} {a b z a' b' z' : MeshMut} {r : Answer} → None ≡ cond (strange ws) (Some (strange_at ws)) None →
    s ≡ steps_in ws → length ws ≤ length s → Enters flat_rows (recipe_trail lent (take (length ws) s) (length (take (length ws) s)) w) l a b z r l' a' b' z' →
    Enters flat_rows (given_trail lent ws w) l a b z r l' a' b' z'
enters-plain lent ws w {s} {l} {l'} {a} {b} {z} {a'} {b'} {z'} {r} e q h k =
    let p : recipe_trail lent (take (length ws) s) (length (take (length ws) s)) w (space a) (space b) (space z) ≡ given_trail lent ws w (space a) (space b) (space z) =
    recipe-front lent s (length ws) w (space a) (space b) (space z) h
    ∙ ap (λ (y : List Step). recipe_trail lent y (length ws) w (space a) (space b) (space z)) q
    ∙ sym (trail-plain lent ws w (space a) (space b) (space z) (strange_not ws e)) in
    record {
      entered = subst (λ (t : Trail). Entered t (flat_rows t.rows) l (held a) (held b) (held z) r l' (held a') (held b') (held z')) p k.entered;
      kept = k.kept;
    }

-- ---- the two ways through a list

module _ (code : ℕ) (t h : Number) (g : Bool) (k : List ℕ) (regular : Bool) (w : Mesh) where
  told : (c : Bool) {o : Option NamedList} {l : NamedList} → o ≡ cond c (Some (list_named code t h)) None → o ≡ Some l → (c ≡ true) × (l ≡ list_named code t h)
  told true e q = (refl, cc)
  told false e q = cc

  pub lists-known :
      {l : NamedList} {a b z a' b' z' : MeshMut} {r : Answer} → Some l ≡ cond (known_list code) (Some (list_named code t h)) None →
      Lists (list_trail l (list_masks l g k regular) w) a b z r a' b' z' → Lists (coded_trail code t h g k regular w) a b z r a' b' z'
  unfolding coded_trail
  lists-known {l} {a} {b} {z} {a'} {b'} {z'} {r} e q =
      let s = told (known_list code) e refl in
      record {
        listed = rw s.0 (subst (λ (m : NamedList). Listed (list_trail m (list_masks m g k regular) w (space a) (space b) (space z)) (held a) (held b) (held z) r (held a') (held b') (held z')) s.1 q.listed);
        kept = q.kept;
      }

  untold : (c : Bool) (l : NamedList) → None ≡ cond c (Some l) None → c ≡ false
  untold true l e = cc
  untold false l e = refl

  pub lists-unknown :
      {a b z a' b' : MeshMut} {r : Answer} → Wipes a a' → Wipes b b' → None ≡ cond (known_list code) (Some (list_named code t h)) None → r ≡ answers.Refused 17 0 0 →
      Lists (coded_trail code t h g k regular w) a b z r a' b' z
  unfolding coded_trail
  lists-unknown {z = z} f y e q =
      record {
        listed = rw (untold (known_list code) _ e, q) (record { ended = record { answer = refl; offsets = refl; corners = refl; coords = refl }; first = f.zero; second = y.zero });
        kept = record { first = f.kept; second = y.kept; output = same-room z };
      }

-- where arities are not given, none are read
pub coded-given :
    (code : ℕ) (t h : Number) (g : Bool) (k : Bor (List ℕ)) (regular : Bool) (w : Mesh) (a b z : Room) {o : Option (Bor (List ℕ))} → o ≡ then_some g k →
    coded_trail code t h (is_some o) (numbers_in o) regular w a b z ≡ coded_trail code t h g k.now regular w a b z
unfolding coded_trail
coded-given code t h true k regular w a b z e = ap (λ (o : Option (Bor (List ℕ))). coded_trail code t h (is_some o) (numbers_in o) regular w a b z) e
coded-given code t h false k regular w a b z e =
    ap (λ (o : Option (Bor (List ℕ))). coded_trail code t h (is_some o) (numbers_in o) regular w a b z) e
    ∙ ap (λ (x : Trail). cond (known_list code) x (stopped 17 0)) (sym (unread (list_named code t h) k.now regular w a b z))

-- ---- a recipe given the words that were read of a file is the file's own

pub file-recipe :
    (s : List ℕ) (q : Contents) (lent : ℕ) (w : Mesh) (a b z : Room) → reading s ≡ holds q →
    given_trail lent (fours_of s q) w a b z ≡ recipe_trail lent (over q.steps fillers) (length q.steps) w a b z
unfolding steps_in
file-recipe s q lent w a b z e =
    let g = file-given s q e in
    let p : strange (fours_of s q) ≡ false = rw g.good (go (not (ltb 16 (length (fours_of s q))))) in
    let t : steps_in (fours_of s q) ≡ over q.steps fillers =
    ap (λ (l : List (List ℕ)). over (map from_words l) fillers) (take_all 16 (fours_of s q) g.few) ∙ ap (λ (l : List Step). over l fillers) g.steps in
    trail-plain lent (fours_of s q) w a b z p
    ∙ ap₂ (λ (l : List Step) (n : ℕ). recipe_trail lent l n w a b z) t (length_run (four_at s) 16 4 (length q.steps))
  where
    go : (x : Bool) → x && false ≡ false
    go true = refl
    go false = refl
