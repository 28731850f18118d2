use Rattle.backup.proofs.upper_visits.upper_run.Goals as goal

pub upper_advice-requires-clause-room : goal.upper_advice-requires-clause-room
upper_advice-requires-clause-room c = c.requires.room c.args.candidates.now c.requires.candidates
