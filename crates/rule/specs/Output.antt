-- What a writer of faces does to an output, and the room that it needs there. Assumes nothing.
use Rattle.std.specs.Prelude.{◌≡◌, refl, List, [], ◌∷◌, ◌++◌, ℕ, ◌+◌, ◌<◌, length}
use Rattle.std.proofs.Common.{◌∙◌, ap, MutBor}
use Rattle.std.proofs.lemmas.List.Edits.{sets}
use Rattle.slices.specs.Lists.{each, each_more}
use Rattle.rule.specs.Wrote.{Wrote, Room, Space, Ended, wrote_one, wrote_none, wrote_as, wrote_then, room-one, room-each}
use Rattle.rule.specs.declared.output.Output.{Output}

-- faces written at its place, which moves on past them; it lends the same two lists
pub record Put (a : Output) (fs : List (List ℕ)) (b : Output) : Type 0 where
  pub wrote : Wrote a.offsets.now a.corners.now a.at fs b.offsets.now b.corners.now b.at
  pub same-offsets : b.offsets.ghost_name ≡ a.offsets.ghost_name
  pub same-corners : b.corners.ghost_name ≡ a.corners.ghost_name

-- the end of a face of n corners written there, and nothing else
pub record PutEnd (a : Output) (n : ℕ) (b : Output) : Type 0 where
  pub ended : Ended a.offsets.now a.at n b.offsets.now b.at
  pub same-offsets : b.offsets.ghost_name ≡ a.offsets.ghost_name
  pub same-corners : b.corners ≡ a.corners

-- it has room for these faces; for a face of n corners
abbrev pub RoomIn : Output → List (List ℕ) → Type 0
RoomIn a fs = Room a.offsets.now a.corners.now a.at fs

abbrev pub SpaceIn : Output → ℕ → Type 0
SpaceIn a n = Space a.offsets.now a.corners.now a.at n

-- numbers may have been stored among its corners, and nothing else has changed
pub record Kept (a b : Output) : Type 0 where
  pub same-at : b.at ≡ a.at
  pub same-offsets : b.offsets ≡ a.offsets
  pub same-corners : b.corners.ghost_name ≡ a.corners.ghost_name
  pub long : length b.corners.now ≡ length a.corners.now

pub kept_none : (a : Output) → Kept a a
kept_none a = record { same-at = refl; same-offsets = refl; same-corners = refl; long = refl }

-- one face: its corners stored from the place on, and its end
pub put_one :
    {a m b : Output} {n : ℕ} (f : List ℕ) → length f ≡ n → Kept a m → m.corners.now ≡ sets a.corners.now a.at.cors f → PutEnd m n b → Put a (f ∷ []) b
put_one {a} {m} {b} {n} f e k c p =
    record {
      wrote = wrote_one f e (rw (k.same-at, k.same-offsets) at p.ended) (ap (λ (x : MutBor (List ℕ)). x.now) p.same-corners ∙ c);
      same-offsets = p.same-offsets ∙ ap (λ (x : MutBor (List ℕ)). x.ghost_name) k.same-offsets;
      same-corners = ap (λ (x : MutBor (List ℕ)). x.ghost_name) p.same-corners ∙ k.same-corners;
    }

pub put_none : (a : Output) → Put a [] a
put_none a = record { wrote = wrote_none _ _ _; same-offsets = refl; same-corners = refl }

pub put_as : {a b : Output} {fs gs : List (List ℕ)} → fs ≡ gs → Put a gs b → Put a fs b
put_as e p = record { wrote = wrote_as e p.wrote; same-offsets = p.same-offsets; same-corners = p.same-corners }

pub put_then : {a b c : Output} {fs gs : List (List ℕ)} → Put a fs b → Put b gs c → Put a (fs ++ gs) c
put_then p q =
    record {
      wrote = wrote_then p.wrote q.wrote;
      same-offsets = q.same-offsets ∙ p.same-offsets;
      same-corners = q.same-corners ∙ p.same-corners;
    }

pub put-more : {a b c : Output} (g : ℕ → List (List ℕ)) (i : ℕ) → Put a (each g i) b → Put b (g i) c → Put a (each g (i + 1)) c
put-more g i p q = rw each_more (put_then p q)

-- in a loop that writes a face at 0, at 1, .., there is room for the next
pub space_each :
    {a b : Output} {m : ℕ} (g : ℕ → List ℕ) (i n : ℕ) → i < n → length (g i) ≡ m → RoomIn a (each (λ j. g j ∷ []) n) → Put a (each (λ j. g j ∷ []) i) b → SpaceIn b m
space_each g i n h e r p = room-one (g i) e (room-each (λ (j : ℕ). g j ∷ []) i n h r p.wrote)
