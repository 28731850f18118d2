use Rattle.std.proofs.Common.{◌≡◌, ℕ, List, [], ◌++◌, ◌∙◌, ap, codes, flat_map, length, rules}
use Rattle.std.specs.Prelude.{slice_index_or}
use Rattle.std.specs.String.{string_bytes}
use Rattle.scaled_num.specs.Sums.{below}
use Rattle.alpha_set.specs.Nodes.{no_node}
use Rattle.point_set.specs.Points.{no_point}
use Rattle.controller.specs.Certificates.{CertificateData}
use Rattle.cert_text.specs.Text.{certificate_text, head_text, node_text, point_text}
use Rattle.text_words.specs.Spelled.{line_of}
use Rattle.text_words.proofs.Grown.{behind}
use Rattle.cert_text.proofs.printing.print.Goals as goal

pub returns : goal.returns
returns c =
    let k : CertificateData = c.args.certificate.now in
    let same_nodes : c.certificate.inside.nodes.members ≡ k.nodes = ap (λ (k : CertificateData). k.nodes) c.certificate.view_is in
    let same_points : c.certificate.inside.points.members ≡ k.points = ap (λ (k : CertificateData). k.points) c.certificate.view_is in
    let nodes = rw same_nodes at c.in_ok-nodes_lines.ensures in
    let points = rw same_points at c.in_ok-points_lines.ensures in
    let node_lines : List ℕ = flat_map (λ i. node_text i (slice_index_or k.nodes i no_node)) (below (length k.nodes)) in
    let point_lines : List ℕ = flat_map (λ j. point_text j (slice_index_or k.points j no_point)) (below (length k.points)) in
    let end_line : List ℕ = line_of (codes "end") [] in
    let last : List ℕ = string_bytes c.line.new.text in
    let whole : last ≡ string_bytes c.new-text.result ++ certificate_text k =
    behind (string_bytes c.new-text.result) (string_bytes c.head_lines.new.text) last (head_text k) (node_lines ++ (point_lines ++ end_line)) c.in_ok-head_lines.ensures
    (behind (string_bytes c.head_lines.new.text) (string_bytes c.nodes_lines.new.text) last node_lines (point_lines ++ end_line) nodes
    (behind (string_bytes c.nodes_lines.new.text) (string_bytes c.points_lines.new.text) last point_lines end_line points c.in_ok-line.ensures)) in
    let none : string_bytes c.new-text.result ≡ [] = search rules in
    let bytes : c.into_bytes.result.items ≡ string_bytes c.line.new.text = search rules in
    bytes ∙ whole ∙ ap (λ (l : List ℕ). l ++ certificate_text k) none
