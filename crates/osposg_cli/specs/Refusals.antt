-- The texts that refuse an input.
use Rattle.std.specs.Prelude.{ℕ, List, [], ◌∷◌, ◌++◌, codes, decimal}
use Rattle.cert_text.specs.declared.fault.CertKind.{CertKind}
use Rattle.cert_text.specs.Fault.{number_of_kind as number_of_cert_kind}
use Rattle.controller.specs.Certificates.{BoundAt, CornerAt, NodeAt, OutcomeAt, Place, SplitAt, StartAt, ValueAt}
use Rattle.game_text.specs.declared.fault.Kind.{Kind}
use Rattle.game_text.specs.Fault.{number_of_kind}

abbrev pub words_refused : List ℕ
words_refused = codes "words refused\n"

abbrev pub game_refused : ℕ → Kind → List ℕ
game_refused line kind = codes "game refused: line " ++ (decimal line ++ (codes " kind " ++ (decimal (number_of_kind kind) ++ 10 ∷ [])))

abbrev pub cert_refused : ℕ → CertKind → List ℕ
cert_refused line kind = codes "certificate refused: line " ++ (decimal line ++ (codes " kind " ++ (decimal (number_of_cert_kind kind) ++ 10 ∷ [])))

-- the first place where a certificate fails
abbrev pub no_text : Place → List ℕ
no_text (NodeAt i s c) = codes "no node " ++ (decimal i ++ (codes " state " ++ (decimal s ++ (codes " action " ++ (decimal c ++ 10 ∷ [])))))
no_text (CornerAt j) = codes "no corner " ++ (decimal j ++ 10 ∷ [])
no_text (SplitAt j a o s) =
    codes "no split " ++ (decimal j ++ (codes " action " ++ (decimal a ++ (codes " seen " ++ (decimal o ++ (codes " state " ++ (decimal s ++ 10 ∷ [])))))))
no_text (ValueAt j a) = codes "no value " ++ (decimal j ++ (codes " action " ++ (decimal a ++ 10 ∷ [])))
no_text StartAt = codes "no start\n"
no_text BoundAt = codes "no bound\n"
no_text OutcomeAt = codes "no outcome\n"
