-- What the nodes of a record say, while the record grows.
use Rattle.std.proofs.Common.{ℕ, suc, ◌+◌, ◌<◌, ◌≤◌, List, [], ◌∷◌, ◌++◌, length, ◌≡◌, refl, ap, ◌∙◌, arith}
use Rattle.std.proofs.lemmas.List.{get_or_append_left, get_or_at, get_or_past, length-append}
use Rattle.pts_record.specs.Said.{Said, nothing, Row, look, say, said_behind}

pub look_before : {B : Type 0} (ms xs : List (Said B)) (k : ℕ) → k < length ms → look (ms ++ xs) k ≡ look ms k
look_before ms xs k h = get_or_append_left ms xs nothing k h

pub look_at : {B : Type 0} (ms : List (Said B)) (m : Said B) (xs : List (Said B)) → look (ms ++ m ∷ xs) (length ms) ≡ m
look_at ms m xs = get_or_at ms m xs nothing (length ms) refl

pub look_past : {B : Type 0} (ms : List (Said B)) (k : ℕ) → length ms ≤ k → look ms k ≡ nothing
look_past ms k h = get_or_past ms k nothing h

pub one_longer : {B : Type 0} (ms : List (Said B)) (m : Said B) → length (ms ++ m ∷ []) ≡ suc (length ms)
one_longer ms m = length-append ms (m ∷ []) ∙ omega arith

-- The lines say one thing each.
pub said_length : {B : Type 0} (ms : List (Said B)) (ls : List (Row B)) → length (said_behind ms ls) ≡ length ms + length ls
said_length ms [] = omega arith
said_length ms (l ∷ ls) = said_length (ms ++ say ms l ∷ []) ls ∙ ap (λ n. n + length ls) (one_longer ms (say ms l)) ∙ omega arith

-- Lines in two parts.
pub said_parts : {B : Type 0} (ms : List (Said B)) (ls ks : List (Row B)) → said_behind ms (ls ++ ks) ≡ said_behind (said_behind ms ls) ks
said_parts ms [] ks = refl
said_parts ms (l ∷ ls) ks = said_parts (ms ++ say ms l ∷ []) ls ks

-- What was said stays.
pub said_stays : {B : Type 0} (ms : List (Said B)) (ls : List (Row B)) (k : ℕ) → k < length ms → look (said_behind ms ls) k ≡ look ms k
said_stays ms [] k h = refl
said_stays ms (l ∷ ls) k h = said_stays (ms ++ say ms l ∷ []) ls k (rw (one_longer ms (say ms l)) (omega arith)) ∙ look_before ms (say ms l ∷ []) k h
