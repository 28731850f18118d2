use Rattle.std.proofs.Common.{◌≡◌, ◌∙◌, arith, get_or}
use Rattle.alpha_set.proofs.Filling.{NextStep, filled-more, filled-none, filled-table, inside-step, next-step, no_step, vector-is, vector_of}
use Rattle.alpha_set.proofs.tables.fill.Goals as goal

pub loop-step-init : goal.loop-step-init
loop-step-init c = filled-none c.args.game.now c.args.nodes.now c.args.node.now.next.items c.args.table.now c.requires.zeros

pub bounds-nodes-step : goal.bounds-nodes-step
bounds-nodes-step c = inside-step c.args.game.now c.args.nodes.now c.args.node.now c.requires.member c.loop-step.step-index c.deref-step-items.result.now c.deref-step-items.ensures.value c.loop-step-test.true

vector : (c : goal.After-add-arg-1) → c.deref.result.now ≡ vector_of c.args.nodes.now (get_or c.deref-step-items.result.now c.loop-step.step-index no_step).k
vector c =
    c.deref.ensures.value
    ∙ vector-is c.args.nodes.now (get_or c.deref-step-items.result.now c.loop-step.step-index no_step).k _
    (inside-step c.args.game.now c.args.nodes.now c.args.node.now c.requires.member c.loop-step.step-index c.deref-step-items.result.now c.deref-step-items.ensures.value c.loop-step-test.true)

next : (c : goal.After-add-arg-1) → NextStep c.args.game.now c.args.nodes.now c.deref-step-items.result.now c.loop-step.step-index c.deref.result.now c.loop-step.table
next c =
    next-step c.args.game.now c.law_game.ensures.accepted c.args.nodes.now c.args.node.now c.requires.member c.loop-step.step-index c.loop-step.table c.loop-step.invariant
    c.deref-step-items.result.now c.deref-step-items.ensures.value c.loop-step-test.true c.deref.result.now (vector c)

pub add-requires : goal.add-requires
add-requires c =
    let n = next c in
    record { own = n.own; seen = n.seen; weight = n.weight; few = n.few; entries = n.entries; long = c.loop-step.invariant.long; small = n.small }

pub loop-step-preserved : goal.loop-step-preserved
loop-step-preserved c =
    let inside = inside-step c.args.game.now c.args.nodes.now c.args.node.now c.requires.member c.loop-step.step-index c.deref-step-items.result.now c.deref-step-items.ensures.value c.loop-step-test.true in
    let same : c.deref.result.now ≡ vector_of c.args.nodes.now (get_or c.deref-step-items.result.now c.loop-step.step-index no_step).k =
    c.deref.ensures.value ∙ vector-is c.args.nodes.now (get_or c.deref-step-items.result.now c.loop-step.step-index no_step).k _ inside in
    let n = next-step c.args.game.now c.law_game.ensures.accepted c.args.nodes.now c.args.node.now c.requires.member c.loop-step.step-index c.loop-step.table c.loop-step.invariant
    c.deref-step-items.result.now c.deref-step-items.ensures.value c.loop-step-test.true c.deref.result.now same in
    filled-more c.args.game.now c.args.nodes.now c.args.node.now.next.items c.deref-step-items.result.now c.loop-step.step-index c.deref.result.now c.loop-step.table c.add.new.table
    c.deref-step-items.ensures.value c.loop-step-test.true c.loop-step.invariant c.add.ensures.long n.long same c.add.ensures.brought

pub returns : goal.returns
returns c =
    let t = filled-table c.args.game.now c.law_game.ensures.accepted c.args.nodes.now c.args.node.now c.requires.member c.loop-step.step-index c.loop-step.table c.loop-step.invariant (omega (arith, c.deref-step-items.ensures.len)) in
    record { table = t.0; worths = t.1 }
