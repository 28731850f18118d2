use Rattle.worked_rows.proofs.checks.verdict_of.Goals as goal

pub check-requires : goal.check-requires
check-requires c = c.fits.ensures.0 c.if-not-fits.false
