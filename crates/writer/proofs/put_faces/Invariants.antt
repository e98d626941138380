use mathlib.Core.Path.{◌≡◌}
use lib.Seq.{sets}
use Rattle.writer.specs.File.{flat_map, face_words, bytes_all}
use Rattle.writer.specs.Puts.{faces_to}
use Rattle.writer.proofs.put_faces.Given as goal

abbrev pub invariant-loop-f : goal.invariant-loop-f
invariant-loop-f l = l.out ≡ sets l.initial.out l.from (bytes_all (flat_map face_words (faces_to l.offsets l.corners l.f)))
