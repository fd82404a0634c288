-- Words that spell nothing ask for nothing. Assumes nothing.
use Rattle.std.proofs.Common.{◌≡◌, ℕ, List, [], ◌∷◌, length, get_or, None, Option, arith, Bor}
use Rattle.filter.specs.declared.condition.Criterion.{Criterion}
use Rattle.source.specs.declared.ramp.Slope.{Slope}
use Rattle.command.specs.declared.command.Command.{Command}
use Rattle.command.specs.declared.command.Command.TheVariants.{Filter, Ramp}
use Rattle.command.specs.Words.{SpellsCriterion, SpellsSlope}
use Rattle.command.specs.Commands.{AsksFilter, AsksRamp, FilterWords, RampWords, Asks, ReadsCommand}

filter_spells : (path cell condition constant : List ℕ) (x : Command) → AsksFilter path cell condition constant x → (c : Criterion) × SpellsCriterion cell condition constant c
filter_spells path cell condition constant (Filter p c) (e, s) = (c, s)
filter_spells path cell condition constant (Ramp l c) s = absurd s

ramp_spells : (start step count : List ℕ) (wanted : Criterion) (x : Command) → AsksRamp start step count wanted x → (l : Slope) × SpellsSlope start step count l
ramp_spells start step count wanted (Filter p c) s = absurd s
ramp_spells start step count wanted (Ramp l c) (s, e) = (l, s)

-- what five words and seven words ask for
five : (ws : List (Bor (List ℕ))) (d : Bor (List ℕ)) (x : Command) → length ws ≡ 5 → Asks ws x
    → FilterWords (get_or ws 0 d) (get_or ws 1 d) (get_or ws 2 d) (get_or ws 3 d) (get_or ws 4 d) x
five [] d x n k = absurd k
five (w1 ∷ []) d x n k = absurd k
five (w1 ∷ (w2 ∷ [])) d x n k = absurd k
five (w1 ∷ (w2 ∷ (w3 ∷ []))) d x n k = absurd k
five (w1 ∷ (w2 ∷ (w3 ∷ (w4 ∷ [])))) d x n k = absurd k
five (w1 ∷ (w2 ∷ (w3 ∷ (w4 ∷ (w5 ∷ []))))) d x n k = k
five (w1 ∷ (w2 ∷ (w3 ∷ (w4 ∷ (w5 ∷ (w6 ∷ ws)))))) d x n k = absurd (omega arith)

seven : (ws : List (Bor (List ℕ))) (d : Bor (List ℕ)) (x : Command) → length ws ≡ 7 → Asks ws x
    → RampWords (get_or ws 0 d) (get_or ws 1 d) (get_or ws 2 d) (get_or ws 3 d) (get_or ws 4 d) (get_or ws 5 d) (get_or ws 6 d) x
seven [] d x n k = absurd k
seven (w1 ∷ []) d x n k = absurd k
seven (w1 ∷ (w2 ∷ [])) d x n k = absurd k
seven (w1 ∷ (w2 ∷ (w3 ∷ []))) d x n k = absurd k
seven (w1 ∷ (w2 ∷ (w3 ∷ (w4 ∷ [])))) d x n k = absurd k
seven (w1 ∷ (w2 ∷ (w3 ∷ (w4 ∷ (w5 ∷ []))))) d x n k = absurd (omega arith)
seven (w1 ∷ (w2 ∷ (w3 ∷ (w4 ∷ (w5 ∷ (w6 ∷ [])))))) d x n k = absurd k
seven (w1 ∷ (w2 ∷ (w3 ∷ (w4 ∷ (w5 ∷ (w6 ∷ (w7 ∷ []))))))) d x n k = k
seven (w1 ∷ (w2 ∷ (w3 ∷ (w4 ∷ (w5 ∷ (w6 ∷ (w7 ∷ (w8 ∷ ws)))))))) d x n k = absurd k

none_asked : (ws : List (Bor (List ℕ))) (r : Option Command) → r ≡ None → ((x : Command) → Asks ws x → ⊥) → ReadsCommand ws r
none_asked ws r e h = rw e h

module _ (ws : List (Bor (List ℕ))) (d : Bor (List ℕ)) (r : Option Command) where
  pub no_filter : r ≡ None → length ws ≡ 5 → ((c : Criterion) → SpellsCriterion (get_or ws 2 d).now (get_or ws 3 d).now (get_or ws 4 d).now c → ⊥) → ReadsCommand ws r
  no_filter e n h = none_asked ws r e (λ x k. let (c, s) = filter_spells _ _ _ _ x (five ws d x n k).asks in h c s)

  pub no_slope : r ≡ None → length ws ≡ 7 → ((l : Slope) → SpellsSlope (get_or ws 1 d).now (get_or ws 2 d).now (get_or ws 3 d).now l → ⊥) → ReadsCommand ws r
  no_slope e n h = none_asked ws r e (λ x k. let (l, s) = ramp_spells _ _ _ _ x (seven ws d x n k).asks in h l s)

  pub no_ramp : r ≡ None → length ws ≡ 7 → ((c : Criterion) → SpellsCriterion (get_or ws 4 d).now (get_or ws 5 d).now (get_or ws 6 d).now c → ⊥) → ReadsCommand ws r
  no_ramp e n h = none_asked ws r e (λ x k. let w = seven ws d x n k in h w.wanted w.spells)
