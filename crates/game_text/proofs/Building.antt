-- A builder that takes entries one after another has what they say.
use Rattle.std.proofs.Common.{◌≡◌, ℕ, ◌+◌, ◌-◌, ◌<◌, ◌≤◌, List, [], ◌∷◌, ◌++◌, reverse, length, map, get_or, take, ℤ, refl, sym, ap, subst, ◌∙◌, arith}
use Rattle.std.specs.Prelude.{slice_set, slice_index_or}
use mathlib.Core.List.{reverse-cons}
use Rattle.std.proofs.lemmas.List.{get_or_at, set_at, take_more, take_all, length_push}
use Rattle.game_model.specs.declared.parts.Landing.{Landing}
use Rattle.game_model.specs.Game.{GameData}
use Rattle.game_text.specs.declared.progress.RowEntry.{RowEntry}
use Rattle.game_text.specs.declared.progress.RowEntry.TheVariants as row
use Rattle.game_text.specs.Entries.{Entry}
use Rattle.game_text.specs.Progress.{entry_in, said}
use Rattle.game_text.specs.Built.{rewards_in, onto_last, rows_in, IsBuilt, with_entry}
use Rattle.game_text.proofs.RowSteps.{said-push}

abbrev pub in_order : List (List Landing) → List (List Landing)
in_order rows = reverse (map reverse rows)

landed : (rows : List (List Landing)) (l : Landing)
    → slice_set (in_order rows) (length (in_order rows) - 1) (slice_index_or (in_order rows) (length (in_order rows) - 1) [] ++ l ∷ []) ≡ in_order (onto_last l rows)
landed [] l = refl
landed (row ∷ rows) l =
    let R = in_order rows in
    let cut : in_order (row ∷ rows) ≡ R ++ reverse row ∷ [] = reverse-cons (reverse row) (map reverse rows) in
    let counted : length (R ++ reverse row ∷ []) - 1 ≡ length R = omega (arith, length_push R (reverse row)) in
    let at : slice_index_or (R ++ reverse row ∷ []) (length R) [] ≡ reverse row = get_or_at R (reverse row) [] [] (length R) refl in
    let e : slice_set (R ++ reverse row ∷ []) (length R) (slice_index_or (R ++ reverse row ∷ []) (length R) [] ++ l ∷ []) ≡ R ++ reverse (l ∷ row) ∷ [] =
    ap (λ (x : List Landing). slice_set (R ++ reverse row ∷ []) (length R) (x ++ l ∷ [])) at
    ∙ set_at R (reverse row) [] (reverse row ++ l ∷ []) (length R) refl
    ∙ ap (λ (x : List Landing). R ++ x ∷ []) (sym (reverse-cons l row)) in
    ap (λ (x : List (List Landing)). slice_set x (length x - 1) (slice_index_or x (length x - 1) [] ++ l ∷ [])) cut
    ∙ ap (λ (n : ℕ). slice_set (R ++ reverse row ∷ []) n (slice_index_or (R ++ reverse row ∷ []) n [] ++ l ∷ [])) counted
    ∙ e
    ∙ sym (reverse-cons (reverse (l ∷ row)) (map reverse rows))

pub built_more : (first : List ℤ) (entries : List Entry) (g : GameData) (entry : RowEntry) → IsBuilt first entries g → IsBuilt first (entry_in entry ∷ entries) (with_entry g entry)
built_more first entries g (row.Step s a c r) b = record {
  shape = b.shape;
  divided = b.divided;
  rewards = ap (λ (x : List ℤ). x ++ r ∷ []) b.rewards ∙ sym (reverse-cons r (rewards_in entries));
  rows = ap (λ (x : List (List Landing)). x ++ [] ∷ []) b.rows ∙ sym (reverse-cons [] (map reverse (rows_in entries)));
}
built_more first entries g (row.Out l) b = record {
  shape = b.shape;
  divided = b.divided;
  rewards = b.rewards;
  rows = ap (λ (x : List (List Landing)). slice_set x (length x - 1) (slice_index_or x (length x - 1) [] ++ l ∷ [])) b.rows ∙ landed (rows_in entries) l;
}
built_more first entries g row.End b = record { shape = b.shape; divided = b.divided; rewards = b.rewards; rows = b.rows }

pub said_more : (items : List RowEntry) (i : ℕ) (d : RowEntry) (before : List Entry) → i < length items → said (take (i + 1) items) before ≡ entry_in (get_or items i d) ∷ said (take i items) before
said_more items i d before lt = ap (λ (es : List RowEntry). said es before) (take_more items i d lt) ∙ said-push (take i items) (get_or items i d) before

pub built_step : (first : List ℤ) (items : List RowEntry) (i : ℕ) (d : RowEntry) (before : List Entry) (g new : GameData) → i < length items → IsBuilt first (said (take i items) before) g → new ≡ with_entry g (get_or items i d) → IsBuilt first (said (take (i + 1) items) before) new
built_step first items i d before g new lt b added =
    subst (λ (x : GameData). IsBuilt first (said (take (i + 1) items) before) x) (sym added)
    (subst (λ (es : List Entry). IsBuilt first es (with_entry g (get_or items i d))) (sym (said_more items i d before lt)) (built_more first (said (take i items) before) g (get_or items i d) b))

pub built_all : (first : List ℤ) (items : List RowEntry) (i : ℕ) (before : List Entry) (g new : GameData) → length items ≤ i → IsBuilt first (said (take i items) before) g → new ≡ g → IsBuilt first (said items before) new
built_all first items i before g new le b same =
    subst (λ (x : GameData). IsBuilt first (said items before) x) (sym same) (subst (λ (es : List RowEntry). IsBuilt first (said es before) g) (take_all i items le) b)
