use Rattle.std.proofs.Common.{rules}
use Rattle.controller.proofs.certificates.Certificate.fits.Goals as goal

pub returns-then-nodes_fit : goal.returns-then-nodes_fit
returns-then-nodes_fit c = rw (← c.self.view_is) (search rules)
