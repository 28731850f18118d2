-- Decimal places as the formatter writes them.
use Rattle.std.proofs.Common.{◌≡◌, ℕ, ◌-◌, ◌/◌, ◌%◌, List, [], ◌∷◌, ◌++◌, length, replicate, ap, arith, ◌∙◌, append-nil}
use Rattle.std.specs.Prelude.{ℤ, pos, false, Ok, Err, IfOk, int_lt, unsigned_abs, if◌then◌else◌}
use Rattle.std.specs.declared.result.Result.{Result}
use Rattle.std.specs.Fmt.{decimal, padded_integral, char_count, format_spec}
use Rattle.scaled_num.specs.Printed.{million, six_digits, six_places}

pub padded_six : (n : ℕ) → padded_integral (format_spec 32 0 4 6 18446744073709551615) false [] (decimal n) ≡ six_digits n
unfolding padded_integral char_count
padded_six n =
    let zeros : 6 - length (decimal n) - 0 - 0 ≡ 6 - length (decimal n) = omega arith in
    ap (λ (k : ℕ). replicate k 48 ++ (decimal n ++ [])) zeros ∙ ap (λ (l : List ℕ). replicate (6 - length (decimal n)) 48 ++ l) (append-nil (decimal n))

pub IfOk-then : {T E : Type 0} {P Q : T → Type 0} → (result : Result T E) → IfOk result P → ((x : T) → P x → Q x) → IfOk result Q
IfOk-then (Ok x) holds step = step x holds
IfOk-then (Err e) holds step = tt

-- the parts as they are written one after another
pub six_places-parts : (count : ℤ) (text sign places : List ℕ) (a b c d : ℕ)
    → text ≡ sign ++ (decimal (a / b) ++ (46 ∷ places)) → places ≡ six_digits (c % d)
    → a ≡ unsigned_abs count → b ≡ million → c ≡ unsigned_abs count → d ≡ million → sign ≡ (if int_lt count (pos 0) then 45 ∷ [] else [])
    → text ≡ six_places count
six_places-parts count text sign places a b c d same six e f g h s = same ∙ rw (s, six, e, f, g, h)
