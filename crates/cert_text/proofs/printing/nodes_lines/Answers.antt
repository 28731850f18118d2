use Rattle.std.proofs.Common.{◌≡◌, ◌++◌, rules}
use Rattle.std.specs.Prelude.{slice_index_or}
use Rattle.std.specs.String.{string_bytes}
use Rattle.alpha_set.specs.Nodes.{no_node}
use Rattle.cert_text.specs.Text.{node_text}
use Rattle.text_words.proofs.Grown.{grown-numbered}
use Rattle.cert_text.proofs.printing.nodes_lines.Goals as goal

pub loop-i-preserved : goal.loop-i-preserved
loop-i-preserved c =
    let now = string_bytes c.loop-i.text in
    let step : string_bytes c.node_lines.new.text ≡ now ++ node_text c.loop-i.i (slice_index_or c.args.nodes.now.members c.loop-i.i no_node) = search rules in
    grown-numbered (λ i. node_text i (slice_index_or c.args.nodes.now.members i no_node)) c.loop-i.i (string_bytes c.args.text.now) now (string_bytes c.node_lines.new.text) c.loop-i.invariant step
