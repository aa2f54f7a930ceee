-- The reply to what is submitted, by the first obstacle.
use Rattle.std.proofs.Common.{◌≡◌, ◌≤◌, ◌<◌, ℕ, zero, suc, ◌+◌, List, [], ◌∷◌, IsSome, IfSome, length, nat_le, Bool, true, false, if◌then◌else◌, slice_get, Option, Some, None, refl, sym, ap, ◌∙◌, subst, arith}
use Rattle.std.specs.Option.{option_map, option_or, option_and_then, unwrap_or}
use Rattle.std.proofs.lemmas.Bool.Decides.{nat_tests}
use Rattle.pts_names.specs.Name.{Name}
use Rattle.pts_ctx.specs.Front.{Global}
use Rattle.pts_ctx.specs.Seen.{label_place}
use Rattle.pts_rules.specs.declared.why.Why.{Why}
use Rattle.pts_check.specs.Entered.{declared_entries}
use Rattle.pts_core.specs.declared.finding.Finding.{Finding}
use Rattle.pts_core.specs.declared.finding.Finding.TheVariants as finding
use Rattle.pts_core.specs.declared.reply.Reply.{Reply}
use Rattle.pts_core.specs.declared.reply.Reply.TheVariants as reply
use Rattle.pts_core.specs.declared.obstacle.Obstacle.TheVariants.{Faulty, Loaded, Clash, Full}
use Rattle.pts_core.specs.Replies.{LabelledFront, name_at, faulty_reply, loaded_reply, clash_reply, full_reply, first_clash, refusal_reply, reply_to}
use Rattle.pts_core.specs.Histories.{left_by}
use Rattle.pts_core.specs.Ports.{handed_on}
use Rattle.pts_core.specs.Cores.{SeenExamined}
use Rattle.pts_core.specs.Copies.{ClashesAt}
use Rattle.pts_core.specs.Obstacles.{obstacle_reply, IsFaultless, IsFree}
use Rattle.pts_core.proofs.Numbers.{entries_long}

first_is : (o rest : Option Reply) → IsSome o → o ≡ option_or o rest
first_is None rest h = absurd (cc h)
first_is (Some r) rest h = refl

pub at_number : {A B : Type 0} (f : A → B) (xs : List A) (k : ℕ) → k < length xs → IsSome (option_map f (slice_get xs k))
at_number f [] k h = absurd (omega (arith, h))
at_number f (x ∷ xs) zero h = refl
at_number f (x ∷ xs) (suc k) h = at_number f xs k (omega (arith, h))

-- The entry with a number has its name.
named : (f : Name → Reply) (es : List (Global Name)) (k : ℕ) → k < length es → option_map (λ e. f e.name) (slice_get es k) ≡ Some (f (name_at es k))
named f [] k h = absurd (omega (arith, h))
named f (e ∷ es) zero h = refl
named f (e ∷ es) (suc k) h = named f es k (omega (arith, h))

not_faulty : (es : List (Global Name)) (f : Finding) → IsFaultless f → faulty_reply es f ≡ None
not_faulty es finding.Sound j = refl
not_faulty es (finding.Doubled k) j = refl
not_faulty es (finding.Faulty k n w) j = absurd j

label_taken : (labels : List (Name × ℕ)) (es : List (Global Name)) (o : Option Name) (p : ℕ) → option_and_then (λ l. label_place l labels) o ≡ Some p → (obstacle_reply es o (Loaded p) ≡ loaded_reply labels o) × IsSome (obstacle_reply es o (Loaded p))
label_taken labels es None p h = absurd (cc h)
label_taken labels es (Some l) p h = (ap (option_map (λ q. reply.Loaded l q)) (sym h), refl)

label_new : (labels : List (Name × ℕ)) (o : Option Name) → option_and_then (λ l. label_place l labels) o ≡ None → loaded_reply labels o ≡ None
label_new labels None h = refl
label_new labels (Some l) h = ap (option_map (λ q. reply.Loaded l q)) h

pub if_label_new : (labels : List (Name × ℕ)) (o : Option Name) → option_and_then (λ l. label_place l labels) o ≡ None → IfSome o (λ l. label_place l labels ≡ None)
if_label_new labels None h = tt
if_label_new labels (Some l) h = h

label_is_new : (labels : List (Name × ℕ)) (o : Option Name) → IfSome o (λ l. label_place l labels ≡ None) → loaded_reply labels o ≡ None
label_is_new labels None h = refl
label_is_new labels (Some l) h = ap (option_map (λ q. reply.Loaded l q)) h

module _ (F : LabelledFront) (es : List (Global Name)) (label : Option Name) where
  abbrev after_clash : Option Reply
  after_clash = full_reply (length F.entries) (length es)

  abbrev after_label : Option Reply
  after_label = option_or (clash_reply es (first_clash F.entries es)) after_clash

  pub faulty_is_first : (f : Finding) (k n : ℕ) (w : Why) → f ≡ finding.Faulty k n w → k < length es → obstacle_reply es label (Faulty k n w) ≡ refusal_reply F es label f
  unfolding refusal_reply
  faulty_is_first f k n w e h = named (λ x. reply.Faulty x n w) es k h ∙ ap (refusal_reply F es label) (sym e)

  faultless : (f : Finding) → IsFaultless f → refusal_reply F es label f ≡ option_or (loaded_reply F.labels label) after_label
  unfolding refusal_reply
  faultless f j = ap (λ o. option_or o (option_or (loaded_reply F.labels label) after_label)) (not_faulty es f j)

  pub loaded_is_first : (f : Finding) (p : ℕ) → IsFaultless f → option_and_then (λ l. label_place l F.labels) label ≡ Some p → (obstacle_reply es label (Loaded p) ≡ refusal_reply F es label f) × IsSome (obstacle_reply es label (Loaded p))
  loaded_is_first f p j s =
      let t = label_taken F.labels es label p s in
      (t.0 ∙ (first_is (loaded_reply F.labels label) after_label (subst IsSome t.0 t.1) ∙ sym (faultless f j)), t.1)

  unlabelled : (f : Finding) → IsFaultless f → loaded_reply F.labels label ≡ None → refusal_reply F es label f ≡ after_label
  unlabelled f j s = faultless f j ∙ ap (λ o. option_or o after_label) s

  pub clash_is_first : (f : Finding) (k p : ℕ) → IsFaultless f → option_and_then (λ l. label_place l F.labels) label ≡ None → first_clash F.entries es ≡ Some (k, p) → k < length es → obstacle_reply es label (Clash k p) ≡ refusal_reply F es label f
  clash_is_first f k p j s c h =
      named (λ x. reply.Clash x p) es k h
      ∙ (sym (ap (λ o. option_or (clash_reply es o) after_clash) c) ∙ sym (unlabelled f j (label_new F.labels label s)))

  left_over : (f : Finding) → IsFaultless f → loaded_reply F.labels label ≡ None → first_clash F.entries es ≡ None → refusal_reply F es label f ≡ after_clash
  left_over f j s c = unlabelled f j s ∙ ap (λ o. option_or (clash_reply es o) after_clash) c

  pub full_is_first : (f : Finding) (n : ℕ) → IsFaultless f → option_and_then (λ l. label_place l F.labels) label ≡ None → first_clash F.entries es ≡ None → n ≡ length F.entries → 200000 < length F.entries + length es → obstacle_reply es label (Full n) ≡ refusal_reply F es label f
  full_is_first f n j s c e m =
      let t : nat_le (length F.entries + length es) 200000 ≡ false = grind (arith, nat_tests) in
      ap (λ k. Some (reply.ContextFull k)) e ∙ (sym (ap (λ b. if b then None else Some (reply.ContextFull (length F.entries))) t) ∙ sym (left_over f j (label_new F.labels label s) c))

  room_left : (f : Finding) → IsFaultless f → loaded_reply F.labels label ≡ None → first_clash F.entries es ≡ None → length F.entries + length es ≤ 200000 → refusal_reply F es label f ≡ None
  room_left f j s c m =
      let t : nat_le (length F.entries + length es) 200000 ≡ true = grind (arith, nat_tests) in
      left_over f j s c ∙ ap (λ b. if b then None else Some (reply.ContextFull (length F.entries))) t

-- Where nothing is in the way there is no refusal, and all of it enters.
pub free_is_not_refused : (F : LabelledFront) (x : SeenExamined) → IsFree F x → refusal_reply F (declared_entries x.offer.declarations) x.offer.label x.finding ≡ None
free_is_not_refused F x h =
    let es = declared_entries x.offer.declarations in
    let l = entries_long x.offer.declarations in
    let m : length F.entries + length es ≤ 200000 = omega (arith, l, h.room) in
    ap (refusal_reply F es x.offer.label) h.sound ∙ room_left F es x.offer.label finding.Sound tt (label_is_new F.labels x.offer.label h.label) h.clash m

pub free_is_committed : (F : LabelledFront) (x : SeenExamined) → IsFree F x → reply_to F (declared_entries x.offer.declarations) x.offer.label x.finding ≡ reply.Committed (length F.entries) (length F.entries + length (declared_entries x.offer.declarations))
free_is_committed F x h = ap (λ o. unwrap_or o (reply.Committed (length F.entries) (length F.entries + length (declared_entries x.offer.declarations)))) (free_is_not_refused F x h)

-- Where no name is there twice, and no record has a fault, all was found sound.
pub sound_if_once : (f : Finding) (p : ℕ) (F es : List (Global Name)) → ClashesAt f p F es → IsFaultless f → first_clash F es ≡ None → f ≡ finding.Sound
sound_if_once finding.Sound p F es c j h = refl
sound_if_once (finding.Doubled k) p F es c j h = absurd (cc (sym c ∙ h))
sound_if_once (finding.Faulty k n w) p F es c j h = absurd j

pub faultless_of : (f g : Finding) → f ≡ g → ((k n : ℕ) (w : Why) → f ≡ finding.Faulty k n w → ⊥) → IsFaultless g
faultless_of f finding.Sound e h = tt
faultless_of f (finding.Doubled k) e h = tt
faultless_of f (finding.Faulty k n w) e h = h k n w e

-- Nothing enters at a refusal.
abbrev IsRefused : Reply → Type 0
IsRefused (reply.Committed n m) = ⊥
IsRefused (reply.Seen n) = ⊥
IsRefused (reply.Faulty x n w) = Unit {0}
IsRefused (reply.Clash x n) = Unit {0}
IsRefused (reply.Loaded x n) = Unit {0}
IsRefused (reply.ContextFull n) = Unit {0}

mapped : {A : Type 0} (o : Option A) (f : A → Reply) → ((a : A) → IsRefused (f a)) → IfSome (option_map f o) IsRefused
mapped None f h = tt
mapped (Some a) f h = h a

first_of : (o q : Option Reply) → IfSome o IsRefused → IfSome q IsRefused → IfSome (option_or o q) IsRefused
first_of None q h k = k
first_of (Some r) q h k = h

faulty_refused : (es : List (Global Name)) (f : Finding) → IfSome (faulty_reply es f) IsRefused
faulty_refused es finding.Sound = tt
faulty_refused es (finding.Doubled k) = tt
faulty_refused es (finding.Faulty k n w) = tt

loaded_refused : (labels : List (Name × ℕ)) (o : Option Name) → IfSome (loaded_reply labels o) IsRefused
loaded_refused labels None = tt
loaded_refused labels (Some l) = mapped (label_place l labels) (λ p. reply.Loaded l p) (λ p. tt)

clash_refused : (es : List (Global Name)) (o : Option (ℕ × ℕ)) → IfSome (clash_reply es o) IsRefused
clash_refused es None = tt
clash_refused es (Some c) = tt

full_refused : (b : Bool) (n : ℕ) → IfSome (if b then None else Some (reply.ContextFull n)) IsRefused
full_refused true n = tt
full_refused false n = tt

all_refused : (F : LabelledFront) (es : List (Global Name)) (label : Option Name) (f : Finding) → IfSome (refusal_reply F es label f) IsRefused
unfolding refusal_reply
all_refused F es label f =
    first_of (faulty_reply es f) _ (faulty_refused es f)
    (first_of (loaded_reply F.labels label) _ (loaded_refused F.labels label)
    (first_of (clash_reply es (first_clash F.entries es)) _ (clash_refused es (first_clash F.entries es))
    (full_refused (nat_le (length F.entries + length es) 200000) (length F.entries))))

is_refused : (F : LabelledFront) (es : List (Global Name)) (label : Option Name) (f : Finding) (r : Reply) → refusal_reply F es label f ≡ Some r → IsRefused r
is_refused F es label f r h = subst (λ o. IfSome o IsRefused) h (all_refused F es label f)

stays : (F : LabelledFront) (r : Reply) (es : List (Global Name)) (label : Option Name) → IsRefused r → left_by F r es label ≡ F
stays F (reply.Committed n m) es label h = absurd h
stays F (reply.Seen n) es label h = absurd h
stays F (reply.Faulty x n w) es label h = refl
stays F (reply.Clash x n) es label h = refl
stays F (reply.Loaded x n) es label h = refl
stays F (reply.ContextFull n) es label h = refl

-- A refusal is the reply, leaves the front as it is, and hands nothing on.
module _ (F : LabelledFront) (es : List (Global Name)) (label : Option Name) (f : Finding) (r : Reply) (refused : refusal_reply F es label f ≡ Some r) where
  pub refusal_is_reply : r ≡ reply_to F es label f
  refusal_is_reply = sym (ap (λ o. unwrap_or o (reply.Committed (length F.entries) (length F.entries + length es))) refused)

  pub refusal_stays : left_by F r es label ≡ F
  refusal_stays = stays F r es label (is_refused F es label f r refused)

nothing_handed : (r : Reply) (G : LabelledFront) → IsRefused r → handed_on r G ≡ None
nothing_handed (reply.Committed n m) G h = absurd h
nothing_handed (reply.Seen n) G h = absurd h
nothing_handed (reply.Faulty x n w) G h = refl
nothing_handed (reply.Clash x n) G h = refl
nothing_handed (reply.Loaded x n) G h = refl
nothing_handed (reply.ContextFull n) G h = refl

pub refusal_hands_nothing : (F : LabelledFront) (es : List (Global Name)) (label : Option Name) (f : Finding) (o : Option Reply) → IsSome o → o ≡ refusal_reply F es label f → (G : LabelledFront) → handed_on (reply_to F es label f) G ≡ None
refusal_hands_nothing F es label f None h e G = absurd (cc h)
refusal_hands_nothing F es label f (Some r) h e G =
    ap (λ q. handed_on q G) (sym (refusal_is_reply F es label f r (sym e))) ∙ nothing_handed r G (is_refused F es label f r (sym e))

-- What is handed on is the front; where nothing is, the front is as it was.
pub handed_is : (r : Reply) (F G : LabelledFront) → Some F ≡ handed_on r G → F ≡ G
handed_is (reply.Seen n) F G h = cc h
handed_is (reply.Committed n m) F G h = cc h
handed_is (reply.Faulty x n w) F G h = absurd (cc h)
handed_is (reply.Clash x n) F G h = absurd (cc h)
handed_is (reply.Loaded x n) F G h = absurd (cc h)
handed_is (reply.ContextFull n) F G h = absurd (cc h)

pub not_handed_stays : (F : LabelledFront) (r : Reply) (es : List (Global Name)) (label : Option Name) → None ≡ handed_on r (left_by F r es label) → left_by F r es label ≡ F
not_handed_stays F (reply.Seen n) es label h = absurd (cc h)
not_handed_stays F (reply.Committed n m) es label h = absurd (cc h)
not_handed_stays F (reply.Faulty x n w) es label h = refl
not_handed_stays F (reply.Clash x n) es label h = refl
not_handed_stays F (reply.Loaded x n) es label h = refl
not_handed_stays F (reply.ContextFull n) es label h = refl
