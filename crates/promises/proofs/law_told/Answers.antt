use Rattle.promises.proofs.law_told.Goals as goal

pub returns : goal.returns
returns c =
    record {
      pay = c.law_courses.ensures.pay;
      mean = c.law_courses.ensures.mean;
      own_plans = c.law_strategies.ensures.own_plans;
      informed_plans = c.law_strategies.ensures.informed_plans;
      own_plays = c.law_strategies.ensures.own_plays;
      informed_plays = c.law_strategies.ensures.informed_plays;
      nodes = c.law_machines.ensures.nodes;
      node_plans = c.law_machines.ensures.node_plans;
      points = c.law_machines.ensures.points;
      point_plans = c.law_machines.ensures.point_plans;
      actions = c.law_machines.ensures.actions;
      multiple = c.law_machines.ensures.multiple;
      divide = c.law_machines.ensures.divide;
      lower = c.law_starts.ensures.lower;
      lower_at = c.law_starts.ensures.lower_at;
      upper = c.law_starts.ensures.upper;
      some_node = c.law_starts.ensures.some_node;
      make_up_first = c.law_starts.ensures.make_up_first;
    }
