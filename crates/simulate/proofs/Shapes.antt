-- What is simulated is in the game, and as long as the stages.
use Rattle.std.proofs.Common.{◌≡◌, ℕ, zero, suc, List, ◌∷◌, length, ap, refl, sym, ◌∙◌}
use Rattle.std.specs.List.{AllByRecursion}
use Rattle.rand_pcg.specs.Lcg.{Lcg}
use Rattle.hsvi_draw.specs.Draws.{after_draws, seeded}
use Rattle.game_model.specs.Game.{GameData, IsGame}
use Rattle.controller.specs.Certificates.{CertificateData, CertificateFits, CertificateStands}
use Rattle.simulate.specs.Lengths.{IsInGame}
use Rattle.simulate.specs.Plays.{CanStand, begin_draws, begun, move_draws, moved, played_at, simulated, steps_from}
use Rattle.simulate.specs.declared.parts.Played.{Played}
use Rattle.simulate.specs.declared.parts.Rival.{Rival}
use Rattle.simulate.specs.declared.parts.Standing.{Standing}
use Rattle.simulate.proofs.Begun.{begun-right}
use Rattle.simulate.proofs.Moments.{moved-right, played-right}

pub steps-long : (g : GameData) (k : CertificateData) (n : ℕ) (at : Standing) (draws : Lcg) → length (steps_from g k n at draws) ≡ n
steps-long g k zero at draws = refl
steps-long g k (suc n) at draws =
    let played : Played = played_at g k at draws in
    let later : Lcg = after_draws 3 draws in
    ap suc (steps-long g k n (moved k at played later) (after_draws (move_draws k at played) later))

pub steps-in_game : (g : GameData) (k : CertificateData) (n : ℕ) (at : Standing) (draws : Lcg) → IsGame g → CertificateFits g k → CanStand g k at → AllByRecursion (IsInGame g) (steps_from g k n at draws)
steps-in_game g k zero at draws game fits h = tt
steps-in_game g k (suc n) at draws game fits h =
    let played : Played = played_at g k at draws in
    let later : Lcg = after_draws 3 draws in
    let p = played-right g k at draws game fits h in
    ((h.state, p.own, p.informed), steps-in_game g k n (moved k at played later) (after_draws (move_draws k at played) later) game fits (moved-right g k at played later fits h p))

pub simulated-long : (g : GameData) (k : CertificateData) (seed n : ℕ) (against : Rival) → length (simulated g k seed n against) ≡ n
simulated-long g k seed n against = steps-long g k n (begun g k against (seeded seed)) (after_draws (begin_draws k against) (seeded seed))

pub simulated-in_game : (g : GameData) (k : CertificateData) (seed n : ℕ) (against : Rival) → IsGame g → CertificateStands g k → AllByRecursion (IsInGame g) (simulated g k seed n against)
simulated-in_game g k seed n against game stands =
    steps-in_game g k n (begun g k against (seeded seed)) (after_draws (begin_draws k against) (seeded seed)) game stands.fits (begun-right g k against (seeded seed) game stands)

-- one stage, and those after it
pub steps-next : (g : GameData) (k : CertificateData) (n m : ℕ) (at next : Standing) (draws later last : Lcg) (played : Played) → n ≡ suc m → played ≡ played_at g k at draws → later ≡ after_draws 3 draws →
    next ≡ moved k at played later → last ≡ after_draws (move_draws k at played) later → played ∷ steps_from g k m next last ≡ steps_from g k n at draws
steps-next g k n m at next draws later last played n_is played_is later_is next_is last_is =
    let rest : Played → Lcg → List Played = λ (p : Played) (l : Lcg). p ∷ steps_from g k m (moved k at p l) (after_draws (move_draws k at p) l) in
    ap (λ (x : Standing). played ∷ steps_from g k m x last) next_is ∙ ap (λ (l : Lcg). played ∷ steps_from g k m (moved k at played later) l) last_is
    ∙ ap (λ (l : Lcg). rest played l) later_is ∙ ap (λ (p : Played). rest p (after_draws 3 draws)) played_is ∙ ap (λ (i : ℕ). steps_from g k i at draws) (sym n_is)
