-- What `simulate` answers, and what that promises.
use Rattle.std.specs.Prelude.{ℕ, suc, ℤ, ◌≡◌, ◌⊎◌, min, pos, ◌^◌, List, [], ◌∷◌, ◌++◌, codes, decimal}
use Rattle.controller.specs.Certificates.{CertificateData, CertificateStands}
use Rattle.game_model.specs.Game.{GameData, numbers}
use Rattle.osposg_cli.specs.Check.{IsNo}
use Rattle.osposg_cli.specs.Defined.{AreAnswered, IsDefined}
use Rattle.osposg_cli.specs.Inputs.{AnswersBoth, IsTextOfBoth}
use Rattle.osposg_cli.specs.declared.status.Status.{Status}
use Rattle.osposg_cli.specs.declared.status.Status.TheVariants.{Done}
use Rattle.scaled_num.specs.Printed.{fraction_text}
use Rattle.simulate.specs.DrawnPlays.{IsOwnPlay}
use Rattle.simulate.specs.Lengths.{IsLongest}
use Rattle.simulate.specs.Plays.{gain_of, simulated}
use Rattle.simulate.specs.declared.parts.Played.{Played}
use Rattle.simulate.specs.declared.parts.Rival.{Rival}

-- what happens in a stage: both actions, the observation and the next state
abbrev pub what_happened : Played → List ℕ
what_happened played =
    codes "own " ++ (decimal played.own ++ (codes " informed " ++ (decimal played.informed ++ (codes " seen " ++ (decimal played.seen ++ (codes " to " ++ decimal played.to))))))

-- a stage of a play as a line: its number, its state, and what happens
abbrev pub numbered : ℕ → ℕ → List ℕ → List ℕ
numbered number state what = codes "stage " ++ (decimal number ++ (codes " state " ++ (decimal state ++ (32 ∷ (what ++ 10 ∷ [])))))

abbrev pub stage_line : ℕ → Played → List ℕ
stage_line number played = numbered number played.state (what_happened played)

-- the lines of stages, with numbers from this one on
abbrev pub stage_lines : ℕ → List Played → List ℕ
stage_lines number [] = []
stage_lines number (played ∷ rest) = stage_line number played ++ stage_lines (suc number) rest

-- a gain after the lines of a play
abbrev pub with_gain : List ℕ → List ℕ → List ℕ
with_gain lines gain = lines ++ (codes "gain " ++ (gain ++ 10 ∷ []))

-- the stages of a play from 0 on, and its gain
abbrev pub log_text : List Played → ℤ → ℤ → List ℕ
log_text steps num den = with_gain (stage_lines 0 steps) (fraction_text num den)

abbrev pub play_text : GameData → CertificateData → ℕ → ℕ → Rival → List ℕ
play_text g k seed n rival =
    let steps = simulated g k seed n rival in
    log_text steps (gain_of (numbers g) steps) (pos ((numbers g).discount_under ^ n))

-- The certificate stands, and its play is answered: as many stages as the words ask for, or the most that a play may have.
abbrev pub IsShownPlay : ℕ → ℕ → Rival → GameData → CertificateData → Status → List ℕ → Type 0
IsShownPlay seed stages rival g k status text =
    (longest : ℕ) × IsLongest g longest × CertificateStands g k × (status ≡ Done) × (text ≡ play_text g k seed (min stages longest) rival)

-- the answer to a game and a certificate: a play, or as that of `check` where the certificate does not stand
abbrev pub IsSimulation : ℕ → ℕ → Rival → GameData → CertificateData → Status → List ℕ → Type 0
IsSimulation seed stages rival g k status text = IsShownPlay seed stages rival g k status text ⊎ IsNo g k status text

-- the answer of `simulate` to an input
abbrev pub AnswersSimulate : ℕ → ℕ → Rival → List ℕ → Status → List ℕ → Type 0
AnswersSimulate seed stages rival input status text = AnswersBoth (IsSimulation seed stages rival) input status text

-- whatever the seed, the stages and the rival, the answer is defined, and there is one
abbrev pub SimulateIsDefined : Type 0
SimulateIsDefined = (seed stages : ℕ) (rival : Rival) → IsDefined (AnswersSimulate seed stages rival)

abbrev pub SimulateIsAnswered : Type 0
SimulateIsAnswered = (seed stages : ℕ) (rival : Rival) → AreAnswered (AnswersSimulate seed stages rival)

-- What a play promises of the input: it spells a game and a certificate that stands, and the text is that of a play of the
-- certificate's own plans, of positive weight, with its gain.
abbrev pub SimulatePromises : ℕ → ℕ → Rival → List ℕ → List ℕ → Type 0
SimulatePromises seed stages rival input text =
    (g : GameData) × (k : CertificateData) × (n : ℕ) × IsTextOfBoth g k input × CertificateStands g k × (text ≡ play_text g k seed n rival) × IsOwnPlay g k seed n rival

-- a play that is answered keeps this promise
abbrev pub KeepsSimulate : Type 0
KeepsSimulate =
    (seed stages : ℕ) (rival : Rival) (input text : List ℕ) → AnswersSimulate seed stages rival input Done text →
    SimulatePromises seed stages rival input text
