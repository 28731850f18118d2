use Rattle.std.proofs.Common.{◌≡◌, ◌++◌, List, [], ap, sym, subst, ◌∙◌, arith}
use Rattle.std.specs.Prelude.{ℤ}
use Rattle.std.proofs.lemmas.Result.{IfOk-weaker}
use Rattle.belief.specs.Beliefs.{mixes_for}
use Rattle.stage_game.specs.Advice.{AreInformedRead, IsMixRead}
use Rattle.stage_game.specs.Reading.{last_of}
use Rattle.stage_game.specs.Fits.{MixesFit}
use Rattle.stage_game.proofs.StateMixes.{all-mixes, informed-fit}
use Rattle.stage_game.proofs.Vectors.{written-back, written-long}
use Rattle.stage_game.proofs.Families.{Adds, adds-more, adds-none}
use Rattle.stage_game.proofs.mixes.read_informed_mixes.Goals as goal

pub loop-s-init : goal.loop-s-init
loop-s-init c = record {
  prices = omega (arith, c.in_ok-prices.ensures.len);
  weights = omega (arith, c.in_ok-weights.ensures.len);
  mix = omega (arith, c.in_ok-mix.ensures.len);
  adds = subst (Adds {X = List ℤ} {Y = ℤ} (λ s mix. IsMixRead c.args.game.now (last_of c.args.solver.now) s mix) (λ mix. mix) 0 []) (sym c.in_ok-all.ensures.items)
      (adds-none {X = List ℤ} {Y = ℤ} (λ s mix. IsMixRead c.args.game.now (last_of c.args.solver.now) s mix) (λ mix. mix) [] []);
}

pub loop-s-preserved : goal.loop-s-preserved
loop-s-preserved c =
    let mix : List ℤ = c.read_mix.new.mix in
    record {
      prices = written-long c.read_mix.new.prices c.loop-s.prices.items c.loop-s.prices.len c.args.game.now.shape.informed_actions (omega arith) (omega arith);
      weights = written-long c.read_mix.new.weights c.loop-s.weights.items c.loop-s.weights.len c.args.game.now.shape.informed_actions (omega arith) (omega arith);
      mix = written-long c.read_mix.new.mix c.loop-s.mix.items c.loop-s.mix.len c.args.game.now.shape.informed_actions (omega arith) (omega arith);
      adds = adds-more {X = List ℤ} {Y = ℤ} (λ s mix. IsMixRead c.args.game.now (last_of c.args.solver.now) s mix) (λ mix. mix) c.loop-s.s [] c.loop-s.all.items c.extend_from_slice.new.self.items mix
          c.loop-s.invariant.adds c.read_mix.ensures.mix
          (c.in_ok-extend_from_slice.ensures.items ∙ ap (λ (xs : List ℤ). c.loop-s.all.items ++ xs) (c.deref.ensures.value ∙ written-back mix c.loop-s.mix.items c.loop-s.mix.len (omega arith)));
    }

pub of-requires : goal.of-requires
of-requires c =
    let done : c.loop-s.s ≡ c.args.game.now.shape.states = omega arith in
    let read = all-mixes c.args.game.now (last_of c.args.solver.now) c.loop-s.s c.loop-s.all.items c.deref-2.result.now done c.deref-2.ensures.value c.loop-s.invariant.adds in
    (informed-fit c.args.game.now (last_of c.args.solver.now) (mixes_for c.args.game.now c.deref-2.result.now) (omega (arith, c.law_game.ensures.accepted.shape.informed_actions.0)) read).right

pub returns-clause-informed : goal.returns-clause-informed
returns-clause-informed c =
    let done : c.loop-s.s ≡ c.args.game.now.shape.states = omega arith in
    let read = all-mixes c.args.game.now (last_of c.args.solver.now) c.loop-s.s c.loop-s.all.items c.deref-2.result.now done c.deref-2.ensures.value c.loop-s.invariant.adds in
    IfOk-weaker c.of.result (λ mixes. mixes ≡ mixes_for c.args.game.now c.deref-2.result.now) (AreInformedRead c.args.game.now (last_of c.args.solver.now))
    (λ mixes e. subst (AreInformedRead c.args.game.now (last_of c.args.solver.now)) (sym e) read) c.of.ensures

pub returns-clause-fit : goal.returns-clause-fit
returns-clause-fit c =
    let done : c.loop-s.s ≡ c.args.game.now.shape.states = omega arith in
    let read = all-mixes c.args.game.now (last_of c.args.solver.now) c.loop-s.s c.loop-s.all.items c.deref-2.result.now done c.deref-2.ensures.value c.loop-s.invariant.adds in
    let fit = informed-fit c.args.game.now (last_of c.args.solver.now) (mixes_for c.args.game.now c.deref-2.result.now) (omega (arith, c.law_game.ensures.accepted.shape.informed_actions.0)) read in
    IfOk-weaker c.of.result (λ mixes. mixes ≡ mixes_for c.args.game.now c.deref-2.result.now) (MixesFit c.args.game.now)
    (λ mixes e. subst (MixesFit c.args.game.now) (sym e) fit) c.of.ensures
