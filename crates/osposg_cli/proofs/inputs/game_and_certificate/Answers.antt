use Rattle.std.proofs.Common.{◌≡◌, ℕ, List, ◌-◌, length, drop, take, subst, sym, arith, inr}
use Rattle.std.proofs.lemmas.List.{take_all, length-drop}
use Rattle.game_text.specs.Text.{IsTextOf}
use Rattle.osposg_cli.proofs.inputs.game_and_certificate.Goals as goal

-- the bytes from a place on, as a slice of them is
whole : (n : ℕ) (bytes : List ℕ) → take (length bytes - n) (drop n bytes) ≡ drop n bytes
whole n bytes = take_all (length bytes - n) (drop n bytes) (omega (arith, length-drop n bytes))

pub returns-in-Ok-2 : goal.returns-in-Ok-2
returns-in-Ok-2 c =
    let bytes = c.args.bytes.now in
    (take (length bytes - c.in-Ok.end) (drop c.in-Ok.end bytes), subst (IsTextOf c.in-Ok.game bytes) (sym (whole c.in-Ok.end bytes)) c.in-Ok.ensures.game, rw c.in-Ok-2.is at c.in_ok-certificate-in-Ok.ensures)

pub returns-in-Err : goal.returns-in-Err
returns-in-Err c =
    let bytes = c.args.bytes.now in
    inr (c.in-Ok.game, take (length bytes - c.in-Ok.end) (drop c.in-Ok.end bytes), subst (IsTextOf c.in-Ok.game bytes) (sym (whole c.in-Ok.end bytes)) c.in-Ok.ensures.game, rw c.in-Err.is at c.in_ok-certificate-in-Ok.ensures)
