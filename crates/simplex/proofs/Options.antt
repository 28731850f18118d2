-- What follows from clauses on an `Option`.
use Rattle.std.proofs.Common.{Option, Some, None, IfNone, IfSome}

pub IfNone_then : {X P Q : Type 0} (r : Option X) → IfNone r P → (P → Q) → IfNone r Q
IfNone_then None h f = f h
IfNone_then (Some x) h f = h

pub IfSome_three : {X : Type 0} (r : Option X) {A B C Q : X → Type 0} → IfSome r A → IfSome r B → IfSome r C → ((x : X) → A x → B x → C x → Q x) → IfSome r Q
IfSome_three None a b c f = a
IfSome_three (Some x) a b c f = f x a b c
