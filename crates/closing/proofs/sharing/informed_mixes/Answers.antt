use Rattle.std.proofs.Common.{◌≡◌, ◌++◌, List, [], ap, sym, subst, ◌∙◌, arith}
use Rattle.std.specs.Prelude.{ℤ, pos}
use Rattle.std.proofs.lemmas.Result.{IfOk-weaker}
use Rattle.belief.specs.Beliefs.{mixes_for}
use Rattle.game_model.specs.Branches.{mix_total}
use Rattle.stage_game.specs.Fits.{MixesFit}
use Rattle.stage_game.proofs.SharedTotals.{ArePartsOf}
use Rattle.stage_game.proofs.Vectors.{written-back, written-long}
use Rattle.stage_game.proofs.Families.{Adds, adds-more, adds-none}
use Rattle.closing.proofs.Clamped.{written-mixes}
use Rattle.closing.proofs.sharing.informed_mixes.Goals as goal

pub loop-s-init : goal.loop-s-init
loop-s-init c = record {
  mix = omega (arith, c.in_ok-mix.ensures.len);
  adds = subst (Adds {X = List ℤ} {Y = ℤ} (λ s mix. ArePartsOf (pos mix_total) c.args.game.now.shape.informed_actions mix) (λ mix. mix) 0 []) (sym c.in_ok-all.ensures.items)
      (adds-none {X = List ℤ} {Y = ℤ} (λ s mix. ArePartsOf (pos mix_total) c.args.game.now.shape.informed_actions mix) (λ mix. mix) [] []);
}

pub loop-s-preserved : goal.loop-s-preserved
loop-s-preserved c =
    let mix : List ℤ = c.state_mix.new.mix in
    record {
      mix = written-long c.state_mix.new.mix c.loop-s.mix.items c.loop-s.mix.len c.args.game.now.shape.informed_actions (omega arith) (omega arith);
      adds = adds-more {X = List ℤ} {Y = ℤ} (λ s mix. ArePartsOf (pos mix_total) c.args.game.now.shape.informed_actions mix) (λ mix. mix) c.loop-s.s [] c.loop-s.all.items c.extend_from_slice.new.self.items mix
          c.loop-s.invariant.adds (record { long = c.state_mix.ensures.long; not_negative = c.state_mix.ensures.positive; sums = c.state_mix.ensures.whole })
          (c.in_ok-extend_from_slice.ensures.items ∙ ap (λ (xs : List ℤ). c.loop-s.all.items ++ xs) (c.deref.ensures.value ∙ written-back mix c.loop-s.mix.items c.loop-s.mix.len (omega arith)));
    }

pub of-requires : goal.of-requires
of-requires c =
    let done : c.loop-s.s ≡ c.args.game.now.shape.states = omega arith in
    (written-mixes c.args.game.now c.loop-s.s c.loop-s.all.items c.deref-2.result.now done c.deref-2.ensures.value c.loop-s.invariant.adds).right

pub returns : goal.returns
returns c =
    let done : c.loop-s.s ≡ c.args.game.now.shape.states = omega arith in
    let fit = written-mixes c.args.game.now c.loop-s.s c.loop-s.all.items c.deref-2.result.now done c.deref-2.ensures.value c.loop-s.invariant.adds in
    IfOk-weaker c.of.result (λ mixes. mixes ≡ mixes_for c.args.game.now c.deref-2.result.now) (MixesFit c.args.game.now)
    (λ mixes e. subst (MixesFit c.args.game.now) (sym e) fit) c.of.ensures
