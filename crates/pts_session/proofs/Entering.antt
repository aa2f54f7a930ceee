-- The reply to what is stated, whatever call gives it.
use Rattle.std.proofs.Common.{◌≡◌, ◌≢◌, ◌-◌, ℕ, List, [], ◌∷◌, ◌++◌, length, take, Result, Ok, Err, IfOk, OnOk, refl, sym, ap, ◌∙◌, subst, arith}
use Rattle.std.proofs.lemmas.List.{length-append}
use Rattle.pts_names.specs.Name.{Name}
use Rattle.pts_ctx.specs.System.{Specification}
use Rattle.pts_ctx.specs.Front.{Global}
use Rattle.pts_parser.specs.declared.fault.ReadFault.{ReadFault}
use Rattle.pts_parser.specs.declared.fault.ReadFault.TheVariants as read
use Rattle.pts_parser.specs.FaultText.{read_text}
use Rattle.pts_parser.specs.Resolution.{UnlessMemory}
use Rattle.pts_record.specs.declared.declaration.Declaration.{Declaration}
use Rattle.pts_check.specs.Entered.{declared}
use Rattle.pts_declare.specs.Stated.{Stated}
use Rattle.pts_statement.specs.Statements.{Statement, name_of, stated}
use Rattle.pts_draft.specs.Drafts.{SeenDraft, IsDeclared, scope}
use Rattle.pts_draft.specs.Refusals.{RefusesStated}
use Rattle.pts_draft.specs.declared.fault.DraftFault.{DraftFault}
use Rattle.pts_draft.specs.declared.fault.DraftFault.TheVariants as draft
use Rattle.pts_queries.specs.Reading.{known_name}
use Rattle.pts_queries.specs.Replies.{refusal, declared_line}
use Rattle.pts_session.specs.Seen.{state_of}
use Rattle.pts_session.specs.Faults.{fault_line}
use Rattle.pts_session.specs.Declaring.{Declares, unknown_word, stated_over, word_of}
use Rattle.pts_session.proofs.Declared.{declared_is, refused_is}

take_all : {A : Type 0} (xs : List A) (x : A) → take (length xs) (xs ++ x ∷ []) ≡ xs
take_all [] x = refl
take_all (y ∷ ys) x = ap (λ l. y ∷ l) (take_all ys x)

but_last : {A : Type 0} (xs : List A) (x : A) → take (length (xs ++ x ∷ []) - 1) (xs ++ x ∷ []) ≡ xs
but_last xs x = ap (λ n. take n (xs ++ x ∷ [])) (let e = length-append xs (x ∷ []) in let f : length (xs ++ x ∷ []) - 1 ≡ length xs = omega (arith, e) in f) ∙ take_all xs x

pub dropped_is : (old mid new : SeenDraft) (d : Declaration) → mid.declarations ≡ old.declarations ++ d ∷ [] → new.declarations ≡ take (length mid.declarations - 1) mid.declarations → new.system ≡ old.system → new.entries ≡ old.entries → new.labels ≡ old.labels → new ≡ old
dropped_is old mid new d added dropped s e l = λ i. record {
  system = s i;
  entries = e i;
  labels = l i;
  declarations = (dropped ∙ (ap (λ ds. take (length ds - 1) ds) added ∙ but_last old.declarations d)) i;
}

for_good : (e : ReadFault) (P : Type 0) → e ≢ read.Memory → UnlessMemory e P → P
for_good read.Memory P other p = absurd (other refl)
for_good (read.BadChar n) P other p = p
for_good (read.LongName n) P other p = p
for_good (read.Expected n k) P other p = p
for_good (read.TooDeep n) P other p = p
for_good (read.UnknownName n x) P other p = p
for_good (read.UnknownSort n w) P other p = p

module _ {X E : Type 0} (items : X → List (List ℕ)) (S : Specification) (old mid new : SeenDraft) (b : ℕ) where
  module _ (x : Name) (t : Stated) (same : old.system ≡ S) (r : Result X E) where
    pub entered_is : (word : List ℕ) (c k : ℕ) (i : IsDeclared old x t c k mid.declarations) → c ≡ b → mid.entries ≡ old.entries → mid.labels ≡ old.labels → IfOk r (λ v. (ds : List Declaration) (d : Declaration) → mid.declarations ≡ ds ++ d ∷ [] → items v ≡ declared_line S.sorts word (declared d) ∷ []) → OnOk r (new ≡ mid) → IfOk r (λ v. (d : Statement) → name_of d ≡ x → word_of d ≡ word → stated_over S (state_of old b) d ≡ Ok t → Declares S (state_of old b) d (items v) (state_of new b))
    entered_is word c k i full e l = by r
      where
        by : (r : Result X E) → IfOk r (λ v. (ds : List Declaration) (d : Declaration) → mid.declarations ≡ ds ++ d ∷ [] → items v ≡ declared_line S.sorts word (declared d) ∷ []) → OnOk r (new ≡ mid) → IfOk r (λ v. (d : Statement) → name_of d ≡ x → word_of d ≡ word → stated_over S (state_of old b) d ≡ Ok t → Declares S (state_of old b) d (items v) (state_of new b))
        by (Err f) lines kept = tt
        by (Ok v) lines kept = λ d named worded said.
            subst (λ n. Declares S (state_of old b) d (items v) (state_of n b)) (sym kept)
            (declared_is S old b x t same mid c k d (items v) i full named said (lines old.declarations i.declaration i.added ∙ ap (λ w. declared_line S.sorts w (declared i.declaration) ∷ []) (sym worded)) e l)

    pub refused_all : (e : DraftFault) (word : List ℕ) (c k : ℕ) → RefusesStated old x t e c k → c ≡ b → new ≡ old → OnOk r (e ≢ draft.Memory) → IfOk r (λ v. items v ≡ fault_line S.sorts e ∷ []) → IfOk r (λ v. (d : Statement) → name_of d ≡ x → word_of d ≡ word → stated_over S (state_of old b) d ≡ Ok t → Declares S (state_of old b) d (items v) (state_of new b))
    refused_all e word c k refuses full kept = by r
      where
        by : (r : Result X E) → OnOk r (e ≢ draft.Memory) → IfOk r (λ v. items v ≡ fault_line S.sorts e ∷ []) → IfOk r (λ v. (d : Statement) → name_of d ≡ x → word_of d ≡ word → stated_over S (state_of old b) d ≡ Ok t → Declares S (state_of old b) d (items v) (state_of new b))
        by (Err f) m one = tt
        by (Ok v) m one = λ d named worded said. refused_is S old b x t same new e c k d (items v) refuses full m named said one kept

  pub unread_all : (r : Result X E) (d : Statement) (e : ReadFault) → UnlessMemory e (stated_over S (state_of old b) d ≡ Err e) → new ≡ old → OnOk r (e ≢ read.Memory) → IfOk r (λ v. items v ≡ refusal (read_text e) ∷ []) → IfOk r (λ v. Declares S (state_of old b) d (items v) (state_of new b))
  unread_all (Err f) d e u kept m one = tt
  unread_all (Ok v) d e u kept m one =
      subst (λ n. Declares S (state_of old b) d (items v) (state_of n b)) (sym kept)
      (subst (λ ls. Declares S (state_of old b) d ls (state_of old b)) (sym one)
      (unknown_word (for_good e (stated_over S (state_of old b) d ≡ Err e) m u)))

  pub at_stated : (r : Result X E) (d : Statement) (x : Name) (word : List ℕ) (t : Stated) → name_of d ≡ x → word_of d ≡ word → stated_over S (state_of old b) d ≡ Ok t → IfOk r (λ v. (d : Statement) → name_of d ≡ x → word_of d ≡ word → stated_over S (state_of old b) d ≡ Ok t → Declares S (state_of old b) d (items v) (state_of new b)) → IfOk r (λ v. Declares S (state_of old b) d (items v) (state_of new b))
  at_stated (Err f) d x word t named worded said all = tt
  at_stated (Ok v) d x word t named worded said all = all d named worded said

  pub unread_here : (r : Result X E) (d : Statement) (e : ReadFault) (G : List (Global Name)) → G ≡ scope old → UnlessMemory e (stated S.sorts (known_name G) d ≡ Err e) → new ≡ old → OnOk r (e ≢ read.Memory) → IfOk r (λ v. items v ≡ refusal (read_text e) ∷ []) → IfOk r (λ v. Declares S (state_of old b) d (items v) (state_of new b))
  unread_here r d e G f u = unread_all r d e (subst (λ H. UnlessMemory e (stated S.sorts (known_name H) d ≡ Err e)) f u)
