use Rattle.std.proofs.Common.{◌++◌, [], ◌∷◌, ◌∙◌}
use Rattle.std.specs.Fmt.{signed_decimal}
use Rattle.std.specs.String.{string_bytes}
use Rattle.std.proofs.lemmas.Result.{IfOk-weaker}
use Rattle.text_words.proofs.Grown.{line-made, pushed}
use Rattle.cert_text.proofs.printing.line.Goals as goal

pub returns : goal.returns
unfolding lib.Utf8.encode
returns c =
    let made = line-made signed_decimal c.args.name.now c.args.members.now (string_bytes c.args.text.now) (string_bytes c.push_str.new.self) (string_bytes c.numbers.new.text) c.in_ok-push_str.ensures.bytes c.in_ok-numbers.ensures in
    IfOk-weaker c.push.result _ _ (λ u h. h ∙ made) (pushed c.push.result (string_bytes c.push.new.self) (string_bytes c.numbers.new.text ++ 10 ∷ []) (string_bytes c.numbers.new.text) c.push.ensures.bytes)
