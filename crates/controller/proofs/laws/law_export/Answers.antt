use Rattle.controller.proofs.OneExport.{exports-one}
use Rattle.controller.proofs.laws.law_export.Goals as goal

pub returns : goal.returns
returns c = record { one = exports-one }
