-- What a refusal of a text rules out.
use Rattle.std.proofs.Common.{ℕ, List}
use Rattle.game_model.specs.Game.{GameData, IsGame}
use Rattle.cert_text.specs.declared.fault.CertFault.{CertFault}
use Rattle.cert_text.specs.declared.fault.CertFault.TheVariants.{Line, OutOfMemory}
use Rattle.cert_text.specs.Answers.{IsRefused, IsNoText}
use Rattle.cert_text.specs.Steps.{IsStopped}
use Rattle.cert_text.proofs.Decided.{refuses_from}
use Rattle.cert_text.proofs.LawOnce.{not_refused}
use Rattle.cert_text.proofs.LawRead.{texts_are_read}

pub no_text : (g : GameData) (bytes : List ℕ) (fault : CertFault) → IsGame g → IsRefused g bytes fault → IsNoText g bytes fault
no_text g bytes (Line number kind) game r = λ k t.
    let read = texts_are_read g bytes k game t in
    not_refused g bytes read.0 number kind read.1 r
no_text g bytes OutOfMemory game r = tt

-- where the reader stops, the bytes are refused
pub stopped : (g : GameData) (bytes : List ℕ) (fault : CertFault) → IsGame g → IsStopped g bytes fault → IsRefused g bytes fault
stopped g bytes (Line number kind) game r = refuses_from g bytes number kind game r
stopped g bytes OutOfMemory game r = tt
