-- What a refusal of a text rules out.
use Rattle.std.proofs.Common.{◌≡◌, ℕ, ◌==◌, Bool, true, false, cond, ◌&&◌, List, [], ◌∷◌, ◌++◌, length, sym, ap, subst, ◌∙◌, inl, inr}
use Rattle.game_model.specs.Game.{GameData}
use Rattle.game_text.specs.declared.fault.Kind.{Kind}
use Rattle.game_text.specs.declared.fault.TextFault.{TextFault}
use Rattle.game_text.specs.declared.fault.TextFault.TheVariants.{Line, OutOfMemory}
use Rattle.game_text.specs.Text.{IsTextOf, IsWholeTextOf}
use Rattle.game_text.specs.Plain.{IsWordless, completed, ends_open, is_end, lines_of, open_words, pieces_of}
use Rattle.game_text.specs.Steps.{IsStopped}
use Rattle.game_text.specs.Reading.{told, told_open}
use Rattle.game_text.specs.Built.{EndsAt}
use Rattle.game_text.specs.Answers.{IsGameIn, IsMore, IsRefused, IsRefusedAlone, IsRefusedWhole, IsNoFront, IsNoText, IsNotTrailing, told_at}
use Rattle.game_text.proofs.Accept.{text_not_refused}
use Rattle.game_text.proofs.Earlier.{refused_before}
use Rattle.game_text.proofs.Ruled.{alone_not_refused, text_from, whole_from}
use Rattle.game_text.proofs.Standing.{number_at}

pub no_front : (text : List ℕ) (fault : TextFault) → IsStopped text fault → IsNoFront text fault
no_front text (Line number kind) r = λ g rest t. text_not_refused text rest g number kind t r
no_front text OutOfMemory r = tt

pub not_trailing : (text : List ℕ) (fault : TextFault) → IsStopped text fault → IsNotTrailing fault
not_trailing text (Line number kind) r = refused_before (lines_of text) r.0 kind r.1
not_trailing text OutOfMemory r = tt

-- where the reader stops, the bytes are refused
pub refused_front : (text : List ℕ) (fault : TextFault) → IsStopped text fault → IsRefused text fault
refused_front text (Line number kind) r = text_from text number kind r
refused_front text OutOfMemory r = tt

pub refused_whole : (text : List ℕ) (fault : TextFault) → IsStopped text fault → IsRefusedWhole text fault
refused_whole text (Line number kind) r = whole_from text number kind (inl r)
refused_whole text OutOfMemory r = tt

-- words follow the end
pub refused_behind : (text : List ℕ) (before : ℕ) (rest : List ℕ) (fault : TextFault) → EndsAt text before rest → IsMore before rest fault → IsRefusedWhole text fault
refused_behind text before rest (Line number kind) ends more =
    let at = ends.2 in
    let some = λ (none : IsWordless _). more.0 (subst IsWordless (sym at.after) none) in
    whole_from text number kind (inr (ends.0, ends.1, _, at.reads, some, more.1 ∙ sym (number_at text ends.0 _ before rest at), more.2))
refused_behind text before rest OutOfMemory ends more = tt

-- ---- bytes that are read alone

pub whole_end : (text : List ℕ) → is_end (open_words text) ≡ false → completed text ≡ text
unfolding completed ends_open
whole_end text e = ap (λ (b : Bool). cond b (text ++ 10 ∷ []) text) e

open_end : (text : List ℕ) → is_end (open_words text) ≡ true → completed text ≡ text ++ 10 ∷ []
unfolding completed ends_open
open_end text e = ap (λ (b : Bool). cond b (text ++ 10 ∷ []) text) e

pub told_whole : (text : List ℕ) (number : ℕ) (kind : Kind) → is_end (open_words text) ≡ false → told text number kind ≡ kind
unfolding told ends_open
told_whole text number kind e = ap (λ (b : Bool). cond (b && (number == length (pieces_of text))) (told_open kind) kind) e

told_piece : (text : List ℕ) (number last : ℕ) (kind : Kind) → is_end (open_words text) ≡ true → last ≡ length (pieces_of text) → told text number kind ≡ cond (number == last) (told_open kind) kind
unfolding told ends_open
told_piece text number last kind e same =
    ap (λ (b : Bool). cond (b && (number == length (pieces_of text))) (told_open kind) kind) e ∙ ap (λ (n : ℕ). cond (number == n) (told_open kind) kind) (sym same)

pub game_whole : (text : List ℕ) (g : GameData) → is_end (open_words text) ≡ false → IsGameIn text g → IsWholeTextOf g text
game_whole text g e t = (t.0, subst (λ (bytes : List ℕ). IsTextOf g bytes t.0) (sym (whole_end text e)) t.1, t.2)

pub game_piece : (text bytes : List ℕ) (g : GameData) → is_end (open_words text) ≡ true → bytes ≡ text ++ 10 ∷ [] → IsGameIn bytes g → IsWholeTextOf g text
game_piece text bytes g e same t = (t.0, subst (λ (b : List ℕ). IsTextOf g b t.0) (same ∙ sym (open_end text e)) t.1, t.2)

pub refused_alone : (text : List ℕ) (fault : TextFault) → is_end (open_words text) ≡ false → IsRefusedWhole text fault → IsRefusedAlone text fault
refused_alone text (Line number kind) e r =
    (kind, subst (λ (bytes : List ℕ). IsRefusedWhole bytes (Line number kind)) (sym (whole_end text e)) r, sym (told_whole text number kind e))
refused_alone text OutOfMemory e r = tt

pub refused_piece : (text bytes : List ℕ) (last : ℕ) (fault : TextFault) → is_end (open_words text) ≡ true → bytes ≡ text ++ 10 ∷ [] → last ≡ length (pieces_of text) → IsRefusedWhole bytes fault → IsRefusedAlone text (told_at last fault)
refused_piece text bytes last (Line number kind) e same count r =
    (kind, subst (λ (b : List ℕ). IsRefusedWhole b (Line number kind)) (same ∙ sym (open_end text e)) r, sym (told_piece text number last kind e count))
refused_piece text bytes last OutOfMemory e same count r = tt

pub no_text : (text : List ℕ) (fault : TextFault) → IsRefusedAlone text fault → IsNoText text fault
no_text text (Line number kind) r = λ g t. alone_not_refused text g number kind t r
no_text text OutOfMemory r = tt
