-- How the calls on a survey end. Assumes nothing.
use mathlib.Core.Bool.{cond}
use mathlib.Core.List.{List, [], ◌∷◌, ◌++◌}
use mathlib.Core.Path.{ap, ap₂, refl, subst, sym, ◌∙◌, ◌≡◌}
use Prim.Native.Nat.{◌%◌, suc, zero, ℕ}
use native.Mathlib.Decide.{ℕ_discrete}
use native.Mathlib.Omega.{arith}
use borrow.Author.Tests.{le-ltb, lt-ltb, ne_eqb}
use lib.Dec.{eqb}
use lib.ListN.{length}
use Rattle.calls.proofs.MadeLaws.{made_call_lem, made_of}
use Rattle.calls.specs.Inside.Made.{made_call}
use Rattle.calls.specs.Snapshot.{written}
use Rattle.state.proofs.PairConditions.{pairs_cat, pairs_rest, passed_part, refused_part}
use Rattle.state.proofs.RefusalLaws.{append_refused, count_refused, count_rest, counted_by, passed_length, refused_length}
use Rattle.std.proofs.Common.{IsErrAnd, Ok, Option, Result}
use Rattle.state.proofs.AnswerLaws.{found_refused, number_some}
use Rattle.state.specs.declared.refusal.Refusal.{Refusal}
use Rattle.state.specs.Answers.{At, Found, found, Nowhere, number, Refused}
use Rattle.state.specs.Inside.Earlier.{earlier}
use Rattle.state.specs.Refusal.{Condition, crowded_after, everyone, node_count, pair_conditions, part_record, refusal}
use Rattle.state.specs.Sizes.{snapshot_bytes}
use Rattle.survey.proofs.CountLaws.{last, last_counts, last_none, position_counts, position_none}
use Rattle.survey.proofs.NumberLaws.{numbered, valid_by}
use Rattle.survey.specs.Inside.Walk.{linked_no, position_at}
use Rattle.survey.specs.Position.{answer_of, numbers_of, position_call, position_conditions, position_of}
use Rattle.survey.specs.Sheet.{sheet_call, sheet_conditions, sheet_from}
use Rattle.survey.specs.Survey.{linked_from, record_bytes, record_count, record_pairs}

-- ---- 14, from what `check_form` answers

module _ (survey : List ℕ) {form : ℕ} (f : form ≡ refusal (part_record record_bytes (length survey) ∷ [])) where
  form_refused : (form ≡ 0 → ⊥) → (cs : List Condition) → form ≡ refusal (part_record record_bytes (length survey) ∷ cs)
  form_refused d cs = sym (append_refused (part_record record_bytes (length survey) ∷ []) cs (sym f) d)

  form_rest : form ≡ 0 → (cs : List Condition) → refusal (part_record record_bytes (length survey) ∷ cs) ≡ refusal cs
  form_rest z cs = elim (ℕ_discrete (length survey % record_bytes) 0) [
    | yes e ↦ passed_part cs record_bytes (length survey) e
    | no d ↦ absurd (omega (arith, refused_part [] record_bytes (length survey) d))
  ]

-- ---- the sheet

module _ (survey : List ℕ) (n threshold : ℕ) (buffer : List ℕ) where
  abbrev crowded : Condition
  crowded = crowded_after (linked_from survey threshold) n everyone

  sheet_refused : {r : ℕ} → r ≡ refusal (sheet_conditions survey n threshold (length buffer)) → (r ≡ 0 → ⊥) → written r buffer ≡ sheet_call survey n threshold buffer
  unfolding sheet_call
  sheet_refused {r} e d = rw (sym e, ne_eqb r 0 d)

  module _ {nodes : ℕ} (c : nodes ≡ refusal (node_count n ∷ [])) where
    pub sheet_nodes : (nodes ≡ 0 → ⊥) → written nodes buffer ≡ sheet_call survey n threshold buffer
    sheet_nodes d = sheet_refused (count_refused n c d _) d

    module _ (z : nodes ≡ 0) where
      pub sheet_buffer : (length buffer ≡ snapshot_bytes n → ⊥) → written 2 buffer ≡ sheet_call survey n threshold buffer
      sheet_buffer d = sheet_refused (sym (count_rest n c z _ ∙ refused_length _ (snapshot_bytes n) (length buffer) d)) (λ e. omega arith)

      module _ (l : length buffer ≡ snapshot_bytes n) {form : ℕ} (f : form ≡ refusal (part_record record_bytes (length survey) ∷ [])) where
        abbrev rest : List Condition
        rest = pair_conditions n (record_pairs survey) ++ crowded ∷ []

        sized : refusal (sheet_conditions survey n threshold (length buffer)) ≡ refusal (part_record record_bytes (length survey) ∷ rest)
        sized = count_rest n c z _ ∙ passed_length _ (snapshot_bytes n) (length buffer) l

        pub sheet_form : (form ≡ 0 → ⊥) → written form buffer ≡ sheet_call survey n threshold buffer
        sheet_form d = sheet_refused (form_refused survey f d _ ∙ sym sized) d

        module _ (y : form ≡ 0) {records : ℕ} (q : records ≡ refusal (pair_conditions n (record_pairs survey))) where
          formed : refusal (sheet_conditions survey n threshold (length buffer)) ≡ refusal rest
          formed = sized ∙ form_rest survey f y rest

          pub sheet_records : (records ≡ 0 → ⊥) → written records buffer ≡ sheet_call survey n threshold buffer
          sheet_records d = sheet_refused (sym (formed ∙ append_refused (pair_conditions n (record_pairs survey)) (crowded ∷ []) (sym q) d)) d

          -- what was made decides
          pub sheet_made : records ≡ 0 → made_call (made_of n (linked_no survey threshold)) n buffer ≡ sheet_call survey n threshold buffer
          unfolding sheet_call
          sheet_made x =
              let few = (counted_by n c z).1 in
              made_call_lem (numbered (valid_by survey n few (sym q ∙ x)) threshold) few buffer l
              ∙ sym (ap (λ (r : ℕ). written r (cond (eqb r 0) (sheet_from survey n threshold) buffer)) (formed ∙ pairs_rest n (record_pairs survey) (crowded ∷ []) (sym q ∙ x)))

-- ---- the position

module _ (survey : List ℕ) (n a b : ℕ) where
  -- what the answer is, and its numbers
  abbrev pub Answers : Found ℕ → Type 0
  Answers r = (r ≡ position_call survey n a b) × (numbers_of r ≡ answer_of survey n a b)

  refused : {r : ℕ} → r ≡ refusal (position_conditions survey n a b) → (r ≡ 0 → ⊥) → Answers (Refused r)
  unfolding position_call numbers_of answer_of
  refused {r} e d = (rw (← e, ne_eqb r 0 d), rw (← e, ne_eqb r 0 d))

  -- a refusal that `?` hands on
  answers_refused : (x : Result (Option ℕ) Refusal) (r : Refusal) → IsErrAnd x (λ e. e ≡ r) → number r ≡ refusal (position_conditions survey n a b)
      → Answers (found x)
  answers_refused x r h e = subst Answers (sym (found_refused x r h)) (refused e (number_some r))

  module _ (z : refusal (position_conditions survey n a b) ≡ 0) where
    pub answers_none : last survey a b ≡ 0 → Answers Nowhere
    unfolding position_call numbers_of answer_of
    answers_none e =
        let p : record_count survey ≡ position_of survey a b = position_none survey a b (last_none survey a b e) in
        let past = le-ltb (record_count survey) (record_count survey) (omega arith) in
        (rw (z, ← p, past), rw (z, ← p, past))

    pub answers_at : (i : ℕ) → last survey a b ≡ suc i → Answers (At i)
    unfolding position_call numbers_of answer_of
    answers_at i e =
        let c = last_counts survey a b i e in
        let p : i ≡ position_of survey a b = position_counts survey a b i c in
        let within = lt-ltb i (record_count survey) c.inside in
        (rw (z, ← p, within), rw (z, ← p, within))

    pub answers_found : {o : Option ℕ} → o ≡ position_at (last survey a b) → Answers (found (Ok o))
    unfolding position_at
    answers_found {o} e = by (last survey a b) refl
      where
        by : (x : ℕ) → last survey a b ≡ x → Answers (found (Ok o))
        by zero f = rw (e, f) (answers_none f)
        by (suc i) f = rw (e, f) (answers_at i f)

  -- from what the checks answer
  module _ (x : Result (Option ℕ) Refusal) (r : Refusal) (h : IsErrAnd x (λ e. e ≡ r)) where
    pub position_nodes : number r ≡ refusal (node_count n ∷ []) → Answers (found x)
    position_nodes c = answers_refused x r h (count_refused n c (number_some r) _)

    pub position_form : 0 ≡ refusal (node_count n ∷ []) → number r ≡ refusal (part_record record_bytes (length survey) ∷ []) → Answers (found x)
    position_form c f = answers_refused x r h (form_refused survey f (number_some r) _ ∙ sym (count_rest n c refl _))

  -- the records, and the pair asked about
  module _ (c : 0 ≡ refusal (node_count n ∷ [])) (f : 0 ≡ refusal (part_record record_bytes (length survey) ∷ [])) {records asked : ℕ}
      (q : records ≡ refusal (pair_conditions n (record_pairs survey))) (s : asked ≡ refusal (pair_conditions n ((a, b) ∷ []))) where
    pub position_asked : refusal (position_conditions survey n a b) ≡ earlier records asked
    position_asked =
        count_rest n c refl _ ∙ form_rest survey f refl _ ∙ pairs_cat n (record_pairs survey) ((a, b) ∷ []) ∙ sym (ap₂ earlier q s)

    pub position_pairs : (x : Result (Option ℕ) Refusal) (r : Refusal) → IsErrAnd x (λ e. e ≡ r) → number r ≡ earlier records asked → Answers (found x)
    position_pairs x r h e = answers_refused x r h (e ∙ sym position_asked)
