-- The decimal places of every fraction exist.
use Rattle.std.proofs.Common.{ℕ, List, refl}
use Rattle.std.specs.Prelude.{ℤ, pos, ◌*ℤ◌, ◌<ℤ◌}
use Rattle.scaled_num.proofs.Rounded.{rounded-down, rounded-up}
use Rattle.scaled_num.specs.Printed.{IsDownText, IsUpText, million, six_places}

pub down-some : (num den : ℤ) → pos 0 <ℤ den → (text : List ℕ) × IsDownText num den text
down-some num den p =
    let q = rounded-down (num *ℤ pos million) den p in
    (six_places q.0, record { x = q.0; most = q.1.0; next = q.1.1; same = refl })

pub up-some : (num den : ℤ) → pos 0 <ℤ den → (text : List ℕ) × IsUpText num den text
up-some num den p =
    let q = rounded-up (num *ℤ pos million) den p in
    (six_places q.0, record { x = q.0; least = q.1.0; before = q.1.1; same = refl })
