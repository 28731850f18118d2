use Rattle.std.proofs.Common.{length, sym, take}
use Rattle.std.proofs.lemmas.List.{length-map}
use Rattle.alpha_set.specs.Members.{data_of, node_data}
use Rattle.alpha_set.proofs.Products.{can-all, worth-from}
use Rattle.alpha_set.proofs.worth.greatest.Goals as goal

pub first_greatest-requires-clause-each : goal.first_greatest-requires-clause-each
first_greatest-requires-clause-each c =
    can-all (data_of c.args.nodes.now) c.args.mass.now (take c.gather-count.result c.gather-count.new.portions) c.requires.weighed c.gather-count.ensures.gathered

pub returns : goal.returns
returns c =
    worth-from (data_of c.args.nodes.now) c.args.mass.now (take c.gather-count.result c.gather-count.new.portions) (length c.args.nodes.now) c.first_greatest.result.1 c.first_greatest.result.0
    (sym (length-map c.args.nodes.now node_data)) c.gather-count.ensures.gathered c.first_greatest.ensures
