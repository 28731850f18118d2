-- What a line says stays in its limits.
use Rattle.std.proofs.Common.{◌≡◌, List, [], Ok, ℤ, pos, sym, subst, arith, inl, inr}
use Rattle.std.specs.Prelude.{All, ◌≤ℤ◌}
use Rattle.std.specs.List.{AllByRecursion}
use Rattle.std.proofs.lemmas.Int.{ints}
use Rattle.scaled_num.proofs.Sums.{each-at}
use Rattle.text_words.specs.Lines.{Line}
use Rattle.game_model.specs.Game.{IsWithin}
use Rattle.cert_text.specs.declared.progress.Latest.{Latest}
use Rattle.cert_text.specs.declared.progress.Latest.TheVariants as latest
use Rattle.cert_text.specs.declared.progress.Progress.{Progress}
use Rattle.cert_text.specs.Entries.{Entry, entry_after}
use Rattle.cert_text.specs.View.{IsProgress, FitsProgress}
use Rattle.cert_text.specs.Steps.{line_at}
use Rattle.cert_text.proofs.Reading.{line_at-ok}
use Rattle.cert_text.proofs.LawStarts.{from-ok, InSizes, in_sizes-ok, InFrom, in_from-ok, InOver, in_over-ok}
use Rattle.cert_text.proofs.LawSaid.{version-ok, outcome-ok, gap-ok, lower-ok, upper-ok, tail-ok, sizes-ok, node-ok, vector-ok, mix-ok, belief-ok, value-ok, mixes-ok, InNode, in_node-ok, InPoint, in_point-ok, InMixes, in_mixes-ok}

all_from : (low high : ℤ) (xs : List ℤ) → AllByRecursion (IsWithin low high) xs → All (λ x. (low ≤ℤ x) × (x ≤ℤ high)) xs
all_from low high xs h k d l = each-at (IsWithin low high) d xs k h l

node_fits : (progress : Progress) (line : Line) (e : Entry) → IsProgress progress → InNode progress line e → FitsProgress progress e
node_fits progress line e kept (inl m) = subst (FitsProgress progress) (sym m.1.0) (m.2.branch.own, m.2.branch.seen, m.2.branch.weight.0, m.2.room)
node_fits progress line e kept (inr (inl m)) = subst (FitsProgress progress) (sym m.0.0) (omega (arith, m.1, kept.nodes))
node_fits progress line e kept (inr (inr m)) = subst (FitsProgress progress) (sym m.0.0) (omega arith)

point_fits : (progress : Progress) (line : Line) (e : Entry) → IsProgress progress → InPoint progress line e → FitsProgress progress e
point_fits progress line e kept (inl m) = subst (FitsProgress progress) (sym m.1.0) tt
point_fits progress line e kept (inr (inl m)) = subst (FitsProgress progress) (sym m.0.0) (omega (arith, m.1, kept.points))
point_fits progress line e kept (inr (inr m)) = subst (FitsProgress progress) (sym m.0.0) tt

mixes_fit : (progress : Progress) (line : Line) (e : Entry) → IsProgress progress → InMixes progress line e → FitsProgress progress e
mixes_fit progress line e kept (inl m) = subst (FitsProgress progress) (sym m.1.0) (omega (arith, m.3, kept.limits.states))
mixes_fit progress line e kept (inr m) = point_fits progress line e kept m.0

sizes_fit : (progress : Progress) (line : Line) (e : Entry) → InSizes progress line e → FitsProgress progress e
sizes_fit progress line e (inl m) = subst (FitsProgress progress) (sym m.2.0) tt
sizes_fit progress line e (inr m) = subst (FitsProgress progress) (sym m.1.0) tt

from_fits : (progress : Progress) (line : Line) (e : Entry) → InFrom progress line e → FitsProgress progress e
from_fits progress line e (inl m) = subst (FitsProgress progress) (sym m.2.0) (m.3.start.1.0, m.3.sum)
from_fits progress line e (inr m) = subst (FitsProgress progress) (sym m.2.0) tt

over_fits : (progress : Progress) (line : Line) (e : Entry) → InOver progress line e → FitsProgress progress e
over_fits progress line e (inl m) = subst (FitsProgress progress) (sym m.2.0) tt
over_fits progress line e (inr m) = subst (FitsProgress progress) (sym m.0.0) (omega arith)

fits_after : (progress : Progress) (line : Line) (e : Entry) (l : Latest) → IsProgress progress → entry_after progress l line ≡ Ok e → FitsProgress progress e
unfolding entry_after
fits_after progress line e latest.Nothing kept h = let p = version-ok line e h in subst (FitsProgress progress) (sym p.1.0) tt
fits_after progress line e latest.Version kept h = let p = outcome-ok line e h in subst (FitsProgress progress) (sym p.1.0) tt
fits_after progress line e latest.Outcome kept h = let p = gap-ok line e h in subst (FitsProgress progress) (sym p.1.0) tt
fits_after progress line e latest.Gap kept h = let p = lower-ok line e h in subst (FitsProgress progress) (sym p.1.0) tt
fits_after progress line e latest.Lower kept h = let p = upper-ok line e h in subst (FitsProgress progress) (sym p.1.0) tt
fits_after progress line e latest.Upper kept h = let p = tail-ok line e h in subst (FitsProgress progress) (sym p.1.0) tt
fits_after progress line e latest.Tail kept h = let p = sizes-ok progress.limits.states line e h in subst (FitsProgress progress) (sym p.2.0) (p.3.most_nodes, p.3.most_points)
fits_after progress line e latest.Sizes kept h = sizes_fit progress line e (in_sizes-ok progress line e h)
fits_after progress line e latest.Multiple kept h = from_fits progress line e (inl (from-ok progress line e h))
fits_after progress line e (latest.From i) kept h = from_fits progress line e (in_from-ok progress line e h)
fits_after progress line e (latest.Over j) kept h = over_fits progress line e (in_over-ok progress line e h)
fits_after progress line e latest.Start kept h = subst (FitsProgress progress) (sym (node-ok 0 [] line e h).0.0) (omega arith)
fits_after progress line e latest.Node kept h = let p = vector-ok progress.limits line e h in subst (FitsProgress progress) (sym p.1.0) tt
fits_after progress line e latest.Vector kept h = let p = mix-ok progress.limits line e h in subst (FitsProgress progress) (sym p.1.0) (all_from (pos 0) (pos 65536) p.0 p.2.each)
fits_after progress line e latest.Mix kept h = node_fits progress line e kept (in_node-ok progress line e h)
fits_after progress line e (latest.Next a o k) kept h = node_fits progress line e kept (in_node-ok progress line e h)
fits_after progress line e latest.Point kept h =
    let p = belief-ok progress.limits line e h in
    subst (FitsProgress progress) (sym p.1.0) (omega (arith, p.2.long, kept.limits.states), all_from (pos 0) (pos 1048576) p.0 p.2.each, (omega (arith, ints, p.2.sums.0), p.2.sums.1))
fits_after progress line e latest.Belief kept h = let p = value-ok progress.limits progress.total line e h in subst (FitsProgress progress) (sym p.1.0) tt
fits_after progress line e latest.Value kept h = let p = mixes-ok progress.limits 0 line e h in subst (FitsProgress progress) (sym p.1.0) (omega arith)
fits_after progress line e latest.Mixes kept h = mixes_fit progress line e kept (in_mixes-ok progress line e h)
fits_after progress line e (latest.Split a o k) kept h = point_fits progress line e kept (in_point-ok progress line e h)
fits_after progress line e latest.End kept h = absurd cc

pub line_fits : (progress : Progress) (lines rest : List Line) (entry : Entry) → IsProgress progress → line_at progress lines ≡ Ok (entry, rest) → FitsProgress progress entry
line_fits progress lines rest entry kept h =
    let p = line_at-ok progress lines rest entry h in
    fits_after progress p.0 entry progress.latest kept p.2
