use Rattle.std.proofs.Common.{◌+◌, ◌≤◌, length}
use Rattle.cert_text.specs.Draft.{draft_data}
use Rattle.cert_text.specs.View.{IsProgress}
use Rattle.cert_text.specs.Steps.{IsUnfinished}
use Rattle.cert_text.proofs.SoFar.{SoFar}
use Rattle.cert_text.proofs.reader.read_draft.Given as goal

abbrev pub invariant-loop-draft : goal.invariant-loop-draft
invariant-loop-draft l = record {
  read : SoFar l.fn.start l.fn.text (draft_data l.draft) l.line l.progress l.rest;
  due : IsUnfinished l.progress;
  kept : IsProgress l.progress;
  left : l.line + length l.rest ≤ length l.fn.text;
}

abbrev pub decreases-loop-draft : goal.decreases-loop-draft
decreases-loop-draft l = length l.rest
