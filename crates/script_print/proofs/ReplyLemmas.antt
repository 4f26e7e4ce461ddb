-- Numbers that commas part, numbers of few digits, and the places of accesses.
use Rattle.std.proofs.Common.{◌≡◌, ℕ, ◌+◌, ◌-◌, ◌<◌, ◌≤◌, List, [], ◌∷◌, ◌++◌, length, take, drop, get_or, map, arith, sym, ap, ◌∙◌, append_assoc}
use Rattle.std.specs.Prelude.{◌/◌, ◌%◌, decimal, Result, Ok, Err, OnErr, OnOk, if◌then◌else◌, is_ok, vec_capacity, vec_len}
use Rattle.std.specs.Global.{Vec}
use Rattle.std.specs.List.{flat_map, join_with_byte}
use Rattle.std.proofs.lemmas.List.{append-nil, length-append, take_rest}
use Rattle.std.proofs.lemmas.List.Concat.{flat_map-cons}
use Rattle.std.proofs.lemmas.Fmt.{decimal_digit, decimal_step}
use Rattle.std.proofs.lemmas.List.Folds.{length-flat_map-take}
use Rattle.board_model.specs.AnswerGrammar.{place_text}
use Rattle.script_print.specs.Room.{LacksRoomFor}
use Rattle.script_print.specs.Texts.{comma_text}

joined : (x : ℕ) (xs : List ℕ) → join_with_byte 44 (map decimal (x ∷ xs)) ≡ decimal x ++ flat_map comma_text xs
joined x [] = sym (append-nil (decimal x))
joined x (y ∷ ys) = ap (λ (t : List ℕ). decimal x ++ 44 ∷ t) (joined y ys) ∙ ap (λ (t : List ℕ). decimal x ++ t) (sym (flat_map-cons comma_text y ys))

pub parted : (ns o0 o1 o2 : List ℕ) → 1 ≤ length ns → o1 ≡ o0 ++ decimal (get_or ns 0 0) → o2 ≡ o1 ++ flat_map comma_text (take (length ns - 1) (drop 1 ns)) → o2 ≡ o0 ++ join_with_byte 44 (map decimal ns)
parted [] o0 o1 o2 le e1 e2 = absurd (omega arith)
parted (n ∷ ns) o0 o1 o2 le e1 e2 =
    let r : take (length (n ∷ ns) - 1) (drop 1 (n ∷ ns)) ≡ ns = take_rest (n ∷ ns) 1 in
    let e : o2 ≡ o1 ++ flat_map comma_text ns = rw r at e2 in
    e ∙ ap (λ (x : List ℕ). x ++ flat_map comma_text ns) e1 ∙ append_assoc o0 (decimal n) (flat_map comma_text ns) ∙ ap (λ (x : List ℕ). o0 ++ x) (sym (joined n ns))

-- what holds after an Ok, and what follows from it
pub ok_then : {A E P Q : Type 0} (r : Result A E) → OnOk r P → (P → Q) → OnOk r Q
ok_then (Ok x) h f = f h
ok_then (Err e) h f = tt

-- what holds after an Err, and what follows from it
pub err_then : {A E P Q : Type 0} (r : Result A E) → OnErr r P → (P → Q) → OnErr r Q
err_then (Ok x) h f = tt
err_then (Err e) h f = f h

-- where there is no room for the numbers behind the first, there is none for all
pub parted_lacks : (ns : List ℕ) (out now : Vec ℕ) → 1 ≤ length ns → now.items ≡ out.items ++ decimal (get_or ns 0 0) → vec_capacity out ≤ vec_capacity now → LacksRoomFor now (flat_map comma_text (take (length ns - 1) (drop 1 ns))) → LacksRoomFor out (join_with_byte 44 (map decimal ns))
parted_lacks [] out now le written grows lacks = absurd (omega arith)
parted_lacks (n ∷ ns) out now le written grows lacks =
    let rest : take (length (n ∷ ns) - 1) (drop 1 (n ∷ ns)) ≡ ns = take_rest (n ∷ ns) 1 in
    let short : LacksRoomFor now (flat_map comma_text ns) = rw rest at lacks in
    omega (arith, out.ok.0, now.ok.0, ap length written, length-append out.items (decimal n), ap length (joined n ns), length-append (decimal n) (flat_map comma_text ns), grows, short)

-- the digits of a number of two
digits_of_two : (n : ℕ) → 10 ≤ n → n < 100 → decimal n ≡ (48 + n / 10) ∷ (48 + n % 10) ∷ []
digits_of_two n low high =
    let small : n / 10 < 10 = omega arith in
    decimal_step n low (omega arith) ∙ ap (λ (ds : List ℕ). ds ++ (48 + n % 10) ∷ []) (decimal_digit (n / 10) small)

-- those of a number of three
digits_of_three : (n : ℕ) → 100 ≤ n → n < 1000 → decimal n ≡ (48 + n / 100) ∷ (48 + n / 10 % 10) ∷ (48 + n % 10) ∷ []
digits_of_three n low high =
    let front = digits_of_two (n / 10) (omega arith) (omega arith) in
    let first : n / 10 / 10 ≡ n / 100 = omega arith in
    decimal_step n (omega arith) (omega arith) ∙ ap (λ (ds : List ℕ). ds ++ (48 + n % 10) ∷ []) (front ∙ ap (λ (d : ℕ). (48 + d) ∷ (48 + n / 10 % 10) ∷ []) first)

-- those of a number of four
digits_of_four : (n : ℕ) → 1000 ≤ n → n < 10000 → decimal n ≡ (48 + n / 1000) ∷ (48 + n / 100 % 10) ∷ (48 + n / 10 % 10) ∷ (48 + n % 10) ∷ []
digits_of_four n low high =
    let front = digits_of_three (n / 10) (omega arith) (omega arith) in
    let first : n / 10 / 100 ≡ n / 1000 = omega arith in
    let second : n / 10 / 10 ≡ n / 100 = omega arith in
    decimal_step n (omega arith) (omega arith) ∙ ap (λ (ds : List ℕ). ds ++ (48 + n % 10) ∷ []) (front ∙ ap (λ (d : ℕ). (48 + d) ∷ (48 + n / 10 / 10 % 10) ∷ (48 + n / 10 % 10) ∷ []) first ∙ ap (λ (d : ℕ). (48 + n / 1000) ∷ (48 + d % 10) ∷ (48 + n / 10 % 10) ∷ []) second)

-- the digits that were written are those
pub are_two : (n d1 d2 : ℕ) → 10 ≤ n → n < 100 → d1 ≡ 48 + n / 10 → d2 ≡ 48 + n % 10 → d1 ∷ d2 ∷ [] ≡ decimal n
are_two n d1 d2 low high is1 is2 =
    ap (λ (d : ℕ). d ∷ d2 ∷ []) is1 ∙ ap (λ (d : ℕ). (48 + n / 10) ∷ d ∷ []) is2 ∙ sym (digits_of_two n low high)

-- the digits that were written are those
pub are_three : (n d1 d2 d3 : ℕ) → 100 ≤ n → n < 1000 → d1 ≡ 48 + n / 100 → d2 ≡ 48 + n / 10 % 10 → d3 ≡ 48 + n % 10 → d1 ∷ d2 ∷ d3 ∷ [] ≡ decimal n
are_three n d1 d2 d3 low high is1 is2 is3 =
    ap (λ (d : ℕ). d ∷ d2 ∷ d3 ∷ []) is1 ∙ ap (λ (d : ℕ). (48 + n / 100) ∷ d ∷ d3 ∷ []) is2 ∙ ap (λ (d : ℕ). (48 + n / 100) ∷ (48 + n / 10 % 10) ∷ d ∷ []) is3 ∙ sym (digits_of_three n low high)

-- the digits that were written are those
pub are_four : (n d1 d2 d3 d4 : ℕ) → 1000 ≤ n → n < 10000 → d1 ≡ 48 + n / 1000 → d2 ≡ 48 + n / 100 % 10 → d3 ≡ 48 + n / 10 % 10 → d4 ≡ 48 + n % 10 → d1 ∷ d2 ∷ d3 ∷ d4 ∷ [] ≡ decimal n
are_four n d1 d2 d3 d4 low high is1 is2 is3 is4 =
    ap (λ (d : ℕ). d ∷ d2 ∷ d3 ∷ d4 ∷ []) is1 ∙ ap (λ (d : ℕ). (48 + n / 1000) ∷ d ∷ d3 ∷ d4 ∷ []) is2 ∙ ap (λ (d : ℕ). (48 + n / 1000) ∷ (48 + n / 100 % 10) ∷ d ∷ d4 ∷ []) is3 ∙ ap (λ (d : ℕ). (48 + n / 1000) ∷ (48 + n / 100 % 10) ∷ (48 + n / 10 % 10) ∷ d ∷ []) is4 ∙ sym (digits_of_four n low high)

-- bytes that were added, where they are those that were wanted
pub added : {A E : Type 0} (r : Result A E) (o0 o1 xs ys : List ℕ) → xs ≡ ys → o1 ≡ (if is_ok r then o0 ++ xs else o0) → OnOk r (o1 ≡ o0 ++ ys)
added (Ok x) o0 o1 xs ys same e = e ∙ ap (λ (zs : List ℕ). o0 ++ zs) same
added (Err e) o0 o1 xs ys same _ = tt

-- where there is no room for them
pub lacking : {A E : Type 0} (r : Result A E) (out : Vec ℕ) (xs ys : List ℕ) → xs ≡ ys → OnErr r (LacksRoomFor out xs) → OnErr r (LacksRoomFor out ys)
lacking r out xs ys same h = rw same at h

-- a place of two digits, with its value
place_of_digits : (board word value : ℕ) → board < 10 → word < 10 → place_text board word value ≡ ((48 + board) ∷ 58 ∷ (48 + word) ∷ 32 ∷ []) ++ decimal value
place_of_digits board word value low_board low_word =
    ap (λ (ds : List ℕ). ds ++ (58 ∷ (decimal word ++ 32 ∷ decimal value))) (decimal_digit board low_board)
    ∙ ap (λ (ds : List ℕ). (48 + board) ∷ 58 ∷ (ds ++ 32 ∷ decimal value)) (decimal_digit word low_word)

-- it stands behind its word, where that and the place were added in one go
pub short_place : (kind o0 o1 o2 : List ℕ) (board word value d1 d2 : ℕ) → board ≤ 9 → word ≤ 9 → d1 ≡ 48 + board → d2 ≡ 48 + word → o1 ≡ o0 ++ (kind ++ (d1 ∷ 58 ∷ d2 ∷ 32 ∷ [])) → o2 ≡ o1 ++ decimal value → o2 ≡ o0 ++ (kind ++ place_text board word value)
short_place kind o0 o1 o2 board word value d1 d2 low_board low_word is1 is2 first second =
    let front : List ℕ = d1 ∷ 58 ∷ d2 ∷ 32 ∷ [] in
    let place : front ++ decimal value ≡ place_text board word value =
    ap (λ (d : ℕ). d ∷ 58 ∷ d2 ∷ 32 ∷ decimal value) is1
    ∙ ap (λ (d : ℕ). (48 + board) ∷ 58 ∷ d ∷ 32 ∷ decimal value) is2
    ∙ sym (place_of_digits board word value (omega arith) (omega arith)) in
    second
    ∙ ap (λ (xs : List ℕ). xs ++ decimal value) first
    ∙ append_assoc o0 (kind ++ front) (decimal value)
    ∙ ap (λ (xs : List ℕ). o0 ++ xs) (append_assoc kind front (decimal value) ∙ ap (λ (xs : List ℕ). kind ++ xs) place)

-- so many bytes
short_length : (kind : List ℕ) (board word value : ℕ) → board ≤ 9 → word ≤ 9 → length (kind ++ place_text board word value) ≡ length kind + (4 + length (decimal value))
short_length kind board word value low_board low_word =
    let place = ap length (place_of_digits board word value (omega arith) (omega arith)) in
    omega (arith, place, length-append kind (place_text board word value))

-- where there is no room for the word and the place, there is none for all
pub place_lacks : (kind : List ℕ) (out : Vec ℕ) (board word value room : ℕ) → board ≤ 9 → word ≤ 9 → room ≡ length kind + 4 → vec_capacity out < vec_len out + room → LacksRoomFor out (kind ++ place_text board word value)
place_lacks kind out board word value room low_board low_word so_many lacks = omega (arith, short_length kind board word value low_board low_word, so_many, lacks)

-- nor where there is none for the value behind them
pub value_lacks : (kind : List ℕ) (out now : Vec ℕ) (board word value room : ℕ) → board ≤ 9 → word ≤ 9 → room ≡ length kind + 4 → vec_len now ≡ vec_len out + room → vec_capacity out ≤ vec_capacity now → LacksRoomFor now (decimal value) → LacksRoomFor out (kind ++ place_text board word value)
value_lacks kind out now board word value room low_board low_word so_many longer grows lacks = omega (arith, short_length kind board word value low_board low_word, so_many, longer, grows, lacks)

-- a place of a digit and of two, with its value
place_of_two : (board word value : ℕ) → board < 10 → 10 ≤ word → word < 100 → place_text board word value ≡ ((48 + board) ∷ 58 ∷ (48 + word / 10) ∷ (48 + word % 10) ∷ 32 ∷ []) ++ decimal value
place_of_two board word value low_board low high =
    ap (λ (ds : List ℕ). ds ++ (58 ∷ (decimal word ++ 32 ∷ decimal value))) (decimal_digit board low_board)
    ∙ ap (λ (ds : List ℕ). (48 + board) ∷ 58 ∷ (ds ++ 32 ∷ decimal value)) (digits_of_two word low high)

-- it stands behind its word, where that and the place were added in one go
pub short_place_of_two : (kind o0 o1 o2 : List ℕ) (board word value d1 d2 d3 : ℕ) → board < 10 → 10 ≤ word → word < 100 → d1 ≡ 48 + board → d2 ≡ 48 + word / 10 → d3 ≡ 48 + word % 10 → o1 ≡ o0 ++ (kind ++ (d1 ∷ 58 ∷ d2 ∷ d3 ∷ 32 ∷ [])) → o2 ≡ o1 ++ decimal value → o2 ≡ o0 ++ (kind ++ place_text board word value)
short_place_of_two kind o0 o1 o2 board word value d1 d2 d3 low_board low high is1 is2 is3 first second =
    let front : List ℕ = d1 ∷ 58 ∷ d2 ∷ d3 ∷ 32 ∷ [] in
    let place : front ++ decimal value ≡ place_text board word value =
    ap (λ (d : ℕ). d ∷ 58 ∷ d2 ∷ d3 ∷ 32 ∷ decimal value) is1
    ∙ ap (λ (d : ℕ). (48 + board) ∷ 58 ∷ d ∷ d3 ∷ 32 ∷ decimal value) is2
    ∙ ap (λ (d : ℕ). (48 + board) ∷ 58 ∷ (48 + word / 10) ∷ d ∷ 32 ∷ decimal value) is3
    ∙ sym (place_of_two board word value low_board low high) in
    second
    ∙ ap (λ (xs : List ℕ). xs ++ decimal value) first
    ∙ append_assoc o0 (kind ++ front) (decimal value)
    ∙ ap (λ (xs : List ℕ). o0 ++ xs) (append_assoc kind front (decimal value) ∙ ap (λ (xs : List ℕ). kind ++ xs) place)

-- so many bytes
length_of_two : (kind : List ℕ) (board word value : ℕ) → board < 10 → 10 ≤ word → word < 100 → length (kind ++ place_text board word value) ≡ length kind + (5 + length (decimal value))
length_of_two kind board word value low_board low high =
    let place = ap length (place_of_two board word value low_board low high) in
    omega (arith, place, length-append kind (place_text board word value))

-- where there is no room for the word and the place, there is none for all
pub place_of_two_lacks : (kind : List ℕ) (out : Vec ℕ) (board word value room : ℕ) → board < 10 → 10 ≤ word → word < 100 → room ≡ length kind + 5 → vec_capacity out < vec_len out + room → LacksRoomFor out (kind ++ place_text board word value)
place_of_two_lacks kind out board word value room low_board low high so_many lacks = omega (arith, length_of_two kind board word value low_board low high, so_many, lacks)

-- nor where there is none for the value behind them
pub value_of_two_lacks : (kind : List ℕ) (out now : Vec ℕ) (board word value room : ℕ) → board < 10 → 10 ≤ word → word < 100 → room ≡ length kind + 5 → vec_len now ≡ vec_len out + room → vec_capacity out ≤ vec_capacity now → LacksRoomFor now (decimal value) → LacksRoomFor out (kind ++ place_text board word value)
value_of_two_lacks kind out now board word value room low_board low high so_many longer grows lacks =
    omega (arith, length_of_two kind board word value low_board low high, so_many, longer, grows, lacks)

-- what holds anyway
pub on_any : {A E : Type 0} (r : Result A E) (X : Type 0) → X → OnErr r X
on_any (Ok a) X x = tt
on_any (Err e) X x = x

-- where there is no room for a part of an item, behind the items before it, there is none for the whole list
pub list_lacks : {A : Type 0} (f : A → List ℕ) (xs : List A) (i : ℕ) (d : A) (out now : Vec ℕ) (more : ℕ) → i < length xs → now.items ≡ out.items ++ flat_map f (take i xs) → vec_capacity out ≤ vec_capacity now → more ≤ length (f (get_or xs i d)) → vec_capacity now < vec_len now + more → LacksRoomFor out (flat_map f xs)
list_lacks f xs i d out now more lt written grows part lacks =
    omega (arith, out.ok.0, now.ok.0, ap length written, length-append out.items (flat_map f (take i xs)), length-flat_map-take f xs i d lt, part, grows, lacks)
