use Rattle.controller.specs.Certificates.{Holds, places}
use Rattle.scaled_num.proofs.First.{none-fails, once}
use Rattle.cert_check.proofs.Decisions.{stands-or-fails}
use Rattle.cert_check.proofs.checker.law_once.Goals as goal

pub returns-clause-once : goal.returns-clause-once
returns-clause-once c = λ g k place other f h. once (Holds g k) (places g k) place other f h

pub returns-clause-falls : goal.returns-clause-falls
returns-clause-falls c = λ g k place f stands. none-fails (Holds g k) (places g k) place stands.holds f

pub returns-clause-decided : goal.returns-clause-decided
returns-clause-decided c = stands-or-fails
