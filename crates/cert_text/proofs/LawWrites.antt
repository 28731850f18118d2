-- What may be written from a stage on, up to the end of a text.
use Rattle.std.proofs.Common.{◌≡◌, ℕ, zero, suc, ◌*◌, ◌^◌, ◌<◌, ◌≤◌, List, [], ◌∷◌, map, Ok, ℤ, pos, negsuc, refl, sym, ap, subst, ◌∙◌, arith, inl, inr}
use Rattle.game_model.specs.Limits.{most_belief, most_members}
use Rattle.std.specs.Prelude.{codes, neg_ℤ, unsigned_abs, ◌*ℤ◌}
use Rattle.std.specs.List.{AllByRecursion}
use Rattle.std.proofs.lemmas.Int.{ints}
use Rattle.std.proofs.Math.Nat.{mul-le-mul}
use Rattle.scaled_num.specs.Sums.{sum_of}
use Rattle.text_words.proofs.Whole.{IsWord, IsWritten}
use Rattle.game_model.specs.Branches.{Branch, IsBranch}
use Rattle.game_model.specs.Game.{GameData, IsGame, IsWithin, numbers, span}
use Rattle.game_model.proofs.Worth.{span-small}
use Rattle.controller.specs.Certificates.{CertificateData, Closed, Ending, FractionData, Full as FullRun, Trials}
use Rattle.text_words.proofs.Numerals.{Small, small_within, numbered, numbers_written}
use Rattle.cert_text.specs.declared.progress.Progress.{Progress}
use Rattle.cert_text.specs.declared.progress.Latest.TheVariants as latest
use Rattle.cert_text.specs.Entries.{Entry, Version, Outcome, entry_of, behind, limits_of}
use Rattle.cert_text.specs.Made.{with_entries}
use Rattle.cert_text.specs.Steps.{Say}
use Rattle.cert_text.proofs.LawWords.{IsVersion, IsBrief, fraction_written}
use Rattle.cert_text.proofs.LawSaid.{words_in, fraction_words, branch_numbers, ValueFits}
use Rattle.cert_text.proofs.LawStages.{Stage, progress_of, made_of, Known}
use Rattle.cert_text.proofs.LawSteps.{To}

-- from this stage these entries go to the end, and say this certificate
pub record Writes (g : GameData) (s : Stage) (k : CertificateData) (es : List Entry) : Type 0 where
  pub say : Say (progress_of g s) (map words_in es) es
  pub written : AllByRecursion IsWritten (map words_in es)
  pub end : (behind (progress_of g s) es).latest ≡ latest.End
  pub made : with_entries (limits_of g) (made_of g s) es ≡ k

abbrev pub Can : GameData → Stage → CertificateData → Type 0
Can g s k = (es : List Entry) × Writes g s k es

pub can_step : (g : GameData) (s : Stage) (e : Entry) (t : Stage) (k : CertificateData) → To g s e t → entry_of (progress_of g s) (words_in e) ≡ Ok e → IsWritten (words_in e) → (Known g t → Can g t k) → Can g s k
can_step g s e t k to ok written next =
    let c = next to.known in
    let w = c.1 in (
      e ∷ c.0,
      record {
        say = (ok, subst (λ (p : Progress). Say p (map words_in c.0) c.0) (sym to.progress) w.say);
        written = (written, w.written);
        end = ap (λ (p : Progress). (behind p c.0).latest) to.progress ∙ w.end;
        made = ap (λ (x : CertificateData). with_entries (limits_of g) x c.0) to.made ∙ w.made;
      },
    )

-- ---- numbers of at most 36 digits

pub small_few : (n : ℕ) → n ≤ most_members → Small (pos n)
small_few n l = omega arith

pub small_each : (low high : ℤ) (xs : List ℤ) → unsigned_abs low < 10 ^ 36 → unsigned_abs high < 10 ^ 36 → AllByRecursion (IsWithin low high) xs → AllByRecursion Small xs
small_each low high [] a b h = tt
small_each low high (x ∷ xs) a b h = (small_within low high x a b h.0, small_each low high xs a b h.1)

abs_neg : (n : ℕ) → unsigned_abs (neg_ℤ (pos n)) ≡ n
abs_neg zero = refl
abs_neg (suc n) = refl

pub small_span : (g : GameData) (xs : List ℤ) → IsGame g → AllByRecursion (IsWithin (neg_ℤ (pos (span g))) (pos (span g))) xs → AllByRecursion Small xs
small_span g xs game h =
    let n = span-small g game in
    small_each (neg_ℤ (pos (span g))) (pos (span g)) xs (omega (arith, abs_neg (span g), n)) (omega (arith, n)) h

value_bound : (n : ℕ) (total x : ℤ) → n ≤ 2 ^ 66 → IsWithin (pos 1) (pos most_belief) total → IsWithin (neg_ℤ (pos n *ℤ total)) (pos n *ℤ total) x → Small x
value_bound n (pos t) x l w h =
    let few : t ≤ most_belief = omega (arith, ints, w.1) in
    let m : n * t ≤ 2 ^ 66 * most_belief = mul-le-mul l few in
    small_within (neg_ℤ (pos (n * t))) (pos (n * t)) x (omega (arith, abs_neg (n * t), m)) (omega (arith, m)) h
value_bound n (negsuc t) x l w h = absurd (omega (arith, ints, w.0))

pub small_value : (g : GameData) (b : List ℤ) (v : ℤ) → IsGame g → IsWithin (pos 1) (pos most_belief) (sum_of b) → ValueFits (limits_of g) (sum_of b) v → Small v
small_value g b v game w h = value_bound (span g) (sum_of b) v (span-small g game) w h

pub small_branch : (g : GameData) (members : ℕ) (most : ℤ) (b : Branch) → IsGame g → members ≤ most_members → unsigned_abs most < 10 ^ 36 → IsBranch (numbers g) members most b → AllByRecursion Small (branch_numbers b)
small_branch g members most b game few m f =
    (omega (arith, f.own, game.shape.own_actions), (omega (arith, f.seen, game.shape.observations), (omega (arith, f.member, few), (small_within (pos 1) most b.weight (omega arith) m f.weight, tt))))

-- ---- words

pub numbered_written : (name : List ℕ) (ns : List ℤ) → IsWord name → AllByRecursion Small ns → IsWritten (numbered name ns)
numbered_written name ns w small = (w, numbers_written ns small)

pub fraction_line_written : (name : List ℕ) (f : FractionData) → IsWord name → IsBrief f → IsWritten (fraction_words name f)
fraction_line_written name f w brief = (w, (fraction_written f brief, tt))

pub word_certificate : IsWord (codes "certificate")
word_certificate = (omega arith, (omega arith, (omega arith, (omega arith, (omega arith, (omega arith, (omega arith, (omega arith, (omega arith, (omega arith, (omega arith, tt)))))))))))

pub word_outcome : IsWord (codes "outcome")
word_outcome = (omega arith, (omega arith, (omega arith, (omega arith, (omega arith, (omega arith, (omega arith, tt)))))))

pub word_gap : IsWord (codes "gap")
word_gap = (omega arith, (omega arith, (omega arith, tt)))

pub word_lower : IsWord (codes "lower")
word_lower = (omega arith, (omega arith, (omega arith, (omega arith, (omega arith, tt)))))

pub word_upper : IsWord (codes "upper")
word_upper = (omega arith, (omega arith, (omega arith, (omega arith, (omega arith, tt)))))

pub word_tail : IsWord (codes "tail")
word_tail = (omega arith, (omega arith, (omega arith, (omega arith, tt))))

pub word_sizes : IsWord (codes "sizes")
word_sizes = (omega arith, (omega arith, (omega arith, (omega arith, (omega arith, tt)))))

pub word_start : IsWord (codes "start")
word_start = (omega arith, (omega arith, (omega arith, (omega arith, (omega arith, tt)))))

pub word_node : IsWord (codes "node")
word_node = (omega arith, (omega arith, (omega arith, (omega arith, tt))))

pub word_vector : IsWord (codes "vector")
word_vector = (omega arith, (omega arith, (omega arith, (omega arith, (omega arith, (omega arith, tt))))))

pub word_mix : IsWord (codes "mix")
word_mix = (omega arith, (omega arith, (omega arith, tt)))

pub word_next : IsWord (codes "next")
word_next = (omega arith, (omega arith, (omega arith, (omega arith, tt))))

pub word_point : IsWord (codes "point")
word_point = (omega arith, (omega arith, (omega arith, (omega arith, (omega arith, tt)))))

pub word_belief : IsWord (codes "belief")
word_belief = (omega arith, (omega arith, (omega arith, (omega arith, (omega arith, (omega arith, tt))))))

pub word_value : IsWord (codes "value")
word_value = (omega arith, (omega arith, (omega arith, (omega arith, (omega arith, tt)))))

pub word_split : IsWord (codes "split")
word_split = (omega arith, (omega arith, (omega arith, (omega arith, (omega arith, tt)))))

pub word_end : IsWord (codes "end")
word_end = (omega arith, (omega arith, (omega arith, tt)))

pub word_closed : IsWord (codes "closed")
word_closed = (omega arith, (omega arith, (omega arith, (omega arith, (omega arith, (omega arith, tt))))))

pub word_trials : IsWord (codes "trials")
word_trials = (omega arith, (omega arith, (omega arith, (omega arith, (omega arith, (omega arith, tt))))))

pub word_full : IsWord (codes "full")
word_full = (omega arith, (omega arith, (omega arith, (omega arith, tt))))

pub word_one : IsWord (codes "1")
word_one = (omega arith, tt)

word_two : IsWord (codes "2")
word_two = (omega arith, tt)

pub word_multiple : IsWord (codes "multiple")
word_multiple = (omega arith, (omega arith, (omega arith, (omega arith, (omega arith, (omega arith, (omega arith, (omega arith, tt))))))))

pub word_from : IsWord (codes "from")
word_from = (omega arith, (omega arith, (omega arith, (omega arith, tt))))

pub word_over : IsWord (codes "over")
word_over = (omega arith, (omega arith, (omega arith, (omega arith, tt))))

pub version_written : (v : ℕ) → IsVersion v → IsWritten (words_in (Version v))
version_written v (inl e) = subst (λ (m : ℕ). IsWritten (words_in (Version m))) (sym e) (word_certificate, (word_one, tt))
version_written v (inr e) = subst (λ (m : ℕ). IsWritten (words_in (Version m))) (sym e) (word_certificate, (word_two, tt))

pub outcome_written : (o : Ending) → IsWritten (words_in (Outcome o))
outcome_written Closed = (word_outcome, (word_closed, tt))
outcome_written Trials = (word_outcome, (word_trials, tt))
outcome_written FullRun = (word_outcome, (word_full, tt))
