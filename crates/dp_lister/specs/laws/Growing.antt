-- A growing text is a sink.
use Rattle.std.specs.Prelude.{ℕ, List, [], ◌++◌, Result, Ok, Err}
use Rattle.std.proofs.Common.{sym, ap, ◌∙◌, append_assoc, append-nil}
use Rattle.dp_lister.specs.Sinks.{SinkLaws}
use Rattle.dp_lister.specs.steps.Growing.{Grows}

nothing : {V E : Type 0} (text : V → List ℕ) (s : Result V E) → Grows text s s []
nothing text (Ok v) = sym (append-nil (text v))
nothing text (Err lacks) = tt

both : {V E : Type 0} (text : V → List ℕ) (r s t : Result V E) (first second : List ℕ) → Grows text r s first → Grows text s t second → Grows text r t (first ++ second)
both text (Ok u) (Ok v) (Ok w) first second p q = q ∙ (ap (λ (xs : List ℕ). xs ++ second) p ∙ append_assoc (text u) first second)
both text (Ok u) (Ok v) (Err lacks) first second p q = tt
both text (Ok u) (Err lacks) (Ok w) first second p q = absurd q
both text (Ok u) (Err lacks) (Err again) first second p q = tt
both text (Err lacks) (Ok v) t first second p q = absurd p
both text (Err lacks) (Err again) (Ok w) first second p q = absurd q
both text (Err lacks) (Err again) (Err still) first second p q = tt

-- taking pieces one after another grows the text by all of them
pub grows_laws : {S V E : Type 0} (kept : S → Result V E) (text : V → List ℕ) → SinkLaws (λ (s t : S) (bytes : List ℕ). Grows text (kept s) (kept t) bytes)
grows_laws kept text = record {
  nothing = λ s. nothing text (kept s);
  both = λ r s t first second p q. both text (kept r) (kept s) (kept t) first second p q;
}
