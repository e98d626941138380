use Rattle.std.proofs.Common.{◌≡◌, ℕ, ◌+◌, ◌*◌, ◌≤◌, ◌∙◌, sym, refl, length, arith, rules, length-set}
use Rattle.words.specs.Words.{word_at}
use Rattle.panel.specs.Written.{putting-none, putting-more, putting-all, next-room}
use Rattle.panel.proofs.put_faces.Goals as goal

pub loop-i-init : goal.loop-i-init
loop-i-init c = (refl, refl, putting-none _ _ c.args.offsets.now _)

pub word-a-requires : goal.word-a-requires
word-a-requires c = let nx = next-room c.requires c.loop-i.invariant.2 (omega arith) in omega (arith, nx.bytes)

pub overflow_add-at : goal.overflow_add-at
overflow_add-at c = let nx = next-room c.requires c.loop-i.invariant.2 (omega arith) in omega (arith, nx.bytes)

pub put_run-requires-clause-bytes : goal.put_run-requires-clause-bytes
put_run-requires-clause-bytes c = let nx = next-room c.requires c.loop-i.invariant.2 (omega arith) in (omega arith, omega (arith, nx.bytes, c.word-a.ensures))

pub put_run-requires-clause-room : goal.put_run-requires-clause-room
put_run-requires-clause-room c = let nx = next-room c.requires c.loop-i.invariant.2 (omega arith) in omega (arith, nx.corners, c.word-a.ensures, c.loop-i.invariant.1)

pub put_run-requires-clause-callable : goal.put_run-requires-clause-callable
put_run-requires-clause-callable c at h l =
    let nx = next-room c.requires c.loop-i.invariant.2 (omega arith) in
    let b : at + 4 ≤ length c.args.bytes.now = omega (arith, nx.bytes, c.word-a.ensures, h, l) in
    search rules

pub overflow_cast-offsets : goal.overflow_cast-offsets
overflow_cast-offsets c = let nx = next-room c.requires c.loop-i.invariant.2 (omega arith) in omega (arith, nx.few, c.word-a.ensures)

pub overflow_add-at-in-loop-i-2 : goal.overflow_add-at-in-loop-i-2
overflow_add-at-in-loop-i-2 c = let nx = next-room c.requires c.loop-i.invariant.2 (omega arith) in omega (arith, nx.bytes, c.word-a.ensures)

pub loop-i-preserved : goal.loop-i-preserved
loop-i-preserved c = (
  length-set c.loop-i.offsets _ _ ∙ c.loop-i.invariant.0,
  c.put_run.auto.out ∙ c.loop-i.invariant.1,
  putting-more _ _ c.loop-i.invariant.2 c.word-a.ensures (c.put_run.ensures (word_at c.args.bytes.now) (λ at x h l e. search rules)),
)

pub returns : goal.returns
returns c = putting-all _ _ c.args.offsets.now _ c.loop-i.invariant.2 (omega arith)
