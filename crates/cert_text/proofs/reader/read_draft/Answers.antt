use Rattle.std.proofs.Common.{◌+◌, sym, ap, ◌∙◌, arith}
use Rattle.std.proofs.lemmas.Result.{IfOk-at_ok}
use Rattle.text_words.specs.Lines.{lines_of}
use Rattle.cert_text.specs.declared.progress.Progress.{Progress}
use Rattle.cert_text.specs.Draft.{draft_data}
use Rattle.cert_text.specs.View.{entry_in}
use Rattle.cert_text.proofs.Reading.{passed, gives_ok}
use Rattle.cert_text.proofs.Fits.{line_fits}
use Rattle.cert_text.proofs.SoFar.{so_far_none, so_far_more}
use Rattle.cert_text.proofs.reader.read_draft.Goals as goal

pub loop-draft-init : goal.loop-draft-init
loop-draft-init c = record {
  read = so_far_none c.args.start c.args.text.now (draft_data c.blank-draft.result) c.blank-draft.ensures;
  due = c.requires.begun;
  kept = c.requires.progress;
  left = omega arith;
}

pub advance-requires-clause-fits : goal.advance-requires-clause-fits
advance-requires-clause-fits c =
    let ok = passed c.next_entry.result c.numbered.result (c.loop-draft.line + 1) (c.in_ok-entry.entry, c.in_ok-entry.after) c.numbered.ensures c.in_ok-entry.was in
    line_fits c.loop-draft.progress (lines_of c.loop-draft.rest.now) (lines_of c.in_ok-entry.after.now) (entry_in c.in_ok-entry.entry) c.loop-draft.invariant.kept (gives_ok _ _ _ _ c.next_entry.ensures.gives ok)

pub returns-in-End-clause-found : goal.returns-in-End-clause-found
returns-in-End-clause-found c =
    let ok = passed c.next_entry.result c.numbered.result (c.loop-draft.line + 1) (c.in_ok-entry.entry, c.in_ok-entry.after) c.numbered.ensures c.in_ok-entry.was in
    let s = so_far_more c.args.start c.args.text.now (draft_data c.loop-draft.draft) (draft_data c.take.new.draft) c.loop-draft.line c.loop-draft.progress c.advance.new.progress c.loop-draft.rest.now c.in_ok-entry.after.now (entry_in c.in_ok-entry.entry)
    c.loop-draft.invariant.read (gives_ok _ _ _ _ c.next_entry.ensures.gives ok) c.advance.ensures.after (IfOk-at_ok _ ok c.next_entry.ensures.after) c.in_ok-take.ensures.taken in
    (s.entries, (s.read, sym (ap (λ (p : Progress). p.latest) s.at) ∙ c.in-End.is), s.after, s.made, s.counted)

pub loop-draft-preserved : goal.loop-draft-preserved
loop-draft-preserved c =
    let ok = passed c.next_entry.result c.numbered.result (c.loop-draft.line + 1) (c.in_ok-entry.entry, c.in_ok-entry.after) c.numbered.ensures c.in_ok-entry.was in
    record {
      read = so_far_more c.args.start c.args.text.now (draft_data c.loop-draft.draft) (draft_data c.take.new.draft) c.loop-draft.line c.loop-draft.progress c.advance.new.progress c.loop-draft.rest.now c.in_ok-entry.after.now (entry_in c.in_ok-entry.entry)
          c.loop-draft.invariant.read (gives_ok _ _ _ _ c.next_entry.ensures.gives ok) c.advance.ensures.after (IfOk-at_ok _ ok c.next_entry.ensures.after) c.in_ok-take.ensures.taken;
      due = c.in_default.not-End;
      kept = c.advance.ensures.keeps;
      left = omega (arith, IfOk-at_ok _ ok c.next_entry.ensures.shorter, c.loop-draft.invariant.left);
    }
