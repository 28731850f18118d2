use Rattle.controller.proofs.Places.{rules, stands}
use Rattle.controller.proofs.laws.law_places.Goals as goal

pub returns : goal.returns
returns c = record { rules = λ g k h. rules g k h.holds; stands = stands }
