-- The commands that were sent so far.
use Rattle.std.proofs.Common.{◌≡◌, ℕ, ◌+◌, ◌||◌, List, [], ◌∷◌, ◌++◌, Bool, true, false, not, filter, map}
use Rattle.std.proofs.Common.{Option, Some, None, refl, sym, ap, subst, ◌∙◌, arith, length}
use Rattle.std.proofs.Common.{length-append, append-nil, append_assoc, option_map}
use Rattle.std.proofs.KnownBytes.{Appends-nil}
use Rattle.std.proofs.lemmas.List.{map-append}
use Rattle.std.proofs.lemmas.List.Elements.{filter-append}
use Rattle.std.proofs.lemmas.List.Folds.{list_any-append}
use Rattle.std.specs.Io.KnownBytes.{Appends}
use Rattle.std.specs.List.{AllByRecursion, flat_map, list_any}
use Rattle.std.specs.Str.Lines.{strip_carriage_return}
use Rattle.bsc_text.specs.InputLines.{parts_of}
use Rattle.bsc_text.specs.Reading.{ReadsLine}
use Rattle.bsc_text.specs.declared.reading.LineEnd.TheVariants.{LineFeed, InputEnd}
use Rattle.bsc_clients.specs.Answers.{EndsInFault, IsAnswer, TellsNoFault, count_done, is_done}
use Rattle.bsc_clients.specs.Answers.{is_fault, kind_of, line_shown, with_feed}
use Rattle.bsc_clients.specs.Commands.{commands_after, commands_of, is_follow, is_unsent}
use Rattle.bsc_clients.specs.Commands.{unless_empty, without_last_empty}
use Rattle.bsc_clients.specs.Feeding.{Feeds, SendsEach, SendsSome, turned}
use Rattle.bsc_clients.specs.declared.command.answers.Kind.TheVariants.{Done, News, Refused}
use Rattle.bsc_clients.proofs.Told.{all_append, appends_all, prints_append}

module _ {X : Type 0} (p : X → Bool) where
  filter_false : (x : X) (xs : List X) → p x ≡ false → filter p (x ∷ xs) ≡ filter p xs
  filter_false x xs e = rw e refl

  filter_true : (x : X) (xs : List X) → p x ≡ true → filter p (x ∷ xs) ≡ x ∷ filter p xs
  filter_true x xs e = rw e refl

count_append : (xs ys : List (List ℕ)) → count_done (xs ++ ys) ≡ count_done xs + count_done ys
count_append xs ys =
    let done = (λ (line : List ℕ). is_done (kind_of line)) in
    ap length (filter-append done xs ys) ∙ length-append (filter done xs) (filter done ys)

news_faultless : (news : List (List ℕ)) → AllByRecursion (λ line. kind_of line ≡ News) news
    → AllByRecursion (λ line. is_fault (kind_of line) ≡ false) news
news_faultless [] h = tt
news_faultless (line ∷ news) h = (ap is_fault h.0, news_faultless news h.1)

news_none_done : (news : List (List ℕ)) → AllByRecursion (λ line. kind_of line ≡ News) news
    → filter (λ line. is_done (kind_of line)) news ≡ []
news_none_done [] h = refl
news_none_done (line ∷ news) h =
    filter_false (λ l. is_done (kind_of l)) line news (ap is_done h.0) ∙ news_none_done news h.1

sends_nil : (a b : Option (List ℕ)) → SendsEach [] (turned a a b b)
sends_nil a b = record {
  told = [];
  said = Appends-nil a;
  faultless = tt;
  each = refl;
  printed = Appends-nil b;
}

sends_one : (command : List ℕ) (a b c d : Option (List ℕ)) → Appends a b (with_feed command)
    → IsAnswer Done c d → SendsEach (command ∷ []) (turned a b c d)
sends_one command a b c d said answer = record {
  told = answer.news ++ answer.last ∷ [];
  said = subst (Appends a b) (sym (append-nil (with_feed command))) said;
  faultless =
      all_append (λ l. is_fault (kind_of l) ≡ false) answer.news (answer.last ∷ [])
      (news_faultless answer.news answer.others) (ap is_fault answer.answers, tt);
  each =
      omega (
        arith,
        count_append answer.news (answer.last ∷ []),
        ap length (news_none_done answer.news answer.others),
        ap length (filter_true (λ l. is_done (kind_of l)) answer.last [] (ap is_done answer.answers)),
      );
  printed = answer.printed;
}

sends_append : (xs ys : List (List ℕ)) (a b c d e f : Option (List ℕ))
    → SendsEach xs (turned a b d e) → SendsEach ys (turned b c e f)
    → SendsEach (xs ++ ys) (turned a c d f)
sends_append xs ys a b c d e f p q = record {
  told = p.told ++ q.told;
  said = appends_all with_feed a b c xs ys p.said q.said;
  faultless =
      all_append (λ l. is_fault (kind_of l) ≡ false) p.told q.told p.faultless q.faultless;
  each =
      omega (arith, count_append p.told q.told, length-append xs ys, p.each, q.each);
  printed = prints_append d e f p.told q.told p.printed q.printed;
}

pub some_nil : (a b : Option (List ℕ)) → SendsSome (Some []) false (turned a a b b)
some_nil a b = record { sent = []; asked = refl; follow = refl; sends = sends_nil a b }

-- A command that is skipped is not sent.
pub some_skipped : (command : List ℕ) (a b : Option (List ℕ)) → is_unsent command ≡ true
    → SendsSome (Some (commands_of false command [])) false (turned a a b b)
some_skipped command a b skipped = record {
  sent = [];
  asked = sym (filter_false (λ c. not (is_unsent c)) command [] (ap not skipped));
  follow = refl;
  sends = sends_nil a b;
}

pub some_sent : (command : List ℕ) (follows : Bool) (a b c d : Option (List ℕ))
    → is_unsent command ≡ false → follows ≡ is_follow command → Appends a b (with_feed command)
    → IsAnswer Done c d
    → SendsSome (Some (commands_of false command [])) follows (turned a b c d)
some_sent command follows a b c d unskipped is said answer = record {
  sent = command ∷ [];
  asked = sym (filter_true (λ c. not (is_unsent c)) command [] (ap not unskipped));
  follow = is ∙ one_any (is_follow command);
  sends = sends_one command a b c d said answer;
}
  where
    one_any : (b : Bool) → b ≡ (b || false)
    one_any true = refl
    one_any false = refl

some_append : (xs ys : List (List ℕ)) (f g : Bool) (a b c d e o : Option (List ℕ))
    → SendsSome (Some xs) f (turned a b d e) → SendsSome (Some ys) g (turned b c e o)
    → SendsSome (Some (xs ++ ys)) (f || g) (turned a c d o)
some_append xs ys f g a b c d e o p q = record {
  sent = p.sent ++ q.sent;
  asked = ap (λ l. l ++ q.sent) p.asked ∙ ap (λ l. xs ++ l) q.asked;
  follow =
      ap (λ b. b || g) p.follow ∙ ap (λ b. list_any is_follow p.sent || b) q.follow
      ∙ sym (list_any-append is_follow p.sent q.sent);
  sends = sends_append p.sent q.sent a b c d e o p.sends q.sends;
}

any_append : (commands : Option (List (List ℕ))) (ys : List (List ℕ)) (f g : Bool)
    (a b c d e o : Option (List ℕ))
    → SendsSome commands f (turned a b d e) → SendsSome (Some ys) g (turned b c e o)
    → SendsSome None (f || g) (turned a c d o)
any_append commands ys f g a b c d e o p q = record {
  sent = p.sent ++ q.sent;
  asked = tt;
  follow =
      ap (λ b. b || g) p.follow ∙ ap (λ b. list_any is_follow p.sent || b) q.follow
      ∙ sym (list_any-append is_follow p.sent q.sent);
  sends = sends_append p.sent q.sent a b c d e o p.sends q.sends;
}

-- The commands of the first lines were sent, and these lines are left.
pub record HasSent (text : List ℕ) (all left : List (List ℕ)) (follows : Bool)
    (a b c d : Option (List ℕ)) : Type 0 where
  pub done : List (List ℕ)
  pub whole : all ≡ done ++ left
  pub some : SendsSome (Some (commands_after text (map strip_carriage_return done))) follows
      (turned a b c d)

-- The same of what a reader had and of what it has left, where these are known.
abbrev pub HasSentOf : Option (List ℕ) → Option (List ℕ) → List ℕ → Bool → Option (List ℕ)
    → Option (List ℕ) → Option (List ℕ) → Option (List ℕ) → Type 0
HasSentOf None left text follows a b c d = SendsSome None follows (turned a b c d)
HasSentOf (Some all) None text follows a b c d = ⊥
HasSentOf (Some all) (Some left) text follows a b c d =
    HasSent text (parts_of all) (parts_of left) follows a b c d

pub sent_first : (all : Option (List ℕ)) (text : List ℕ) (a b : Option (List ℕ))
    → HasSentOf all all text false a a b b
sent_first None text a b = record { sent = []; asked = tt; follow = refl; sends = sends_nil a b }
sent_first (Some all) text a b = record { done = []; whole = refl; some = some_nil a b }

commands_append : (text : List ℕ) (xs ys : List (List ℕ))
    → commands_after text (map strip_carriage_return (xs ++ ys))
    ≡ commands_after text (map strip_carriage_return xs)
    ++ commands_after text (map strip_carriage_return ys)
commands_append text xs ys =
    let after = (λ (line : List ℕ). text ++ line) in
    let test = (λ (command : List ℕ). not (is_unsent command)) in
    ap (λ l. filter test (map after l)) (map-append strip_carriage_return xs ys)
    ∙ ap (filter test)
    (map-append after (map strip_carriage_return xs) (map strip_carriage_return ys))
    ∙ filter-append test (map after (map strip_carriage_return xs))
    (map after (map strip_carriage_return ys))

pub sent_more : (all old new : Option (List ℕ)) (text line : List ℕ) (f g : Bool)
    (a b c d e o : Option (List ℕ)) → HasSentOf all old text f a b d e
    → ReadsLine old new LineFeed line
    → SendsSome (Some (commands_after text (strip_carriage_return line ∷ []))) g (turned b c e o)
    → HasSentOf all new text (f || g) a c d o
sent_more None old new text line f g a b c d e o h reads sends =
    any_append None (commands_after text (strip_carriage_return line ∷ [])) f g a b c d e o h sends
sent_more (Some all) None new text line f g a b c d e o h reads sends = absurd h
sent_more (Some all) (Some old) None text line f g a b c d e o h reads sends = absurd reads
sent_more (Some all) (Some old) (Some new) text line f g a b c d e o h reads sends = record {
  done = h.done ++ line ∷ [];
  whole =
      h.whole ∙ ap (λ l. h.done ++ l) reads ∙ sym (append_assoc h.done (line ∷ []) (parts_of new));
  some =
      subst (λ l. SendsSome (Some l) (f || g) (turned a c d o))
      (sym (commands_append text h.done (line ∷ [])))
      (some_append (commands_after text (map strip_carriage_return h.done))
      (commands_after text (strip_carriage_return line ∷ [])) f g a b c d e o h.some sends);
}

without_last : (done : List (List ℕ)) (last : List ℕ)
    → without_last_empty (done ++ last ∷ []) ≡ done ++ unless_empty last
without_last [] last = refl
without_last (part ∷ []) last = refl
without_last (part ∷ next ∷ parts) last = ap (λ l. part ∷ l) (without_last (next ∷ parts) last)

-- The last line was read, and its command was sent if it is one.
pub sent_all : (all old new : Option (List ℕ)) (text line : List ℕ) (f g : Bool)
    (a b c d e o : Option (List ℕ)) → HasSentOf all old text f a b d e
    → ReadsLine old new InputEnd line
    → SendsSome (Some (commands_after text (map strip_carriage_return (unless_empty line)))) g
    (turned b c e o)
    → SendsSome (option_map (commands_of true text) all) (f || g) (turned a c d o)
sent_all None old new text line f g a b c d e o h reads sends =
    any_append None (commands_after text (map strip_carriage_return (unless_empty line))) f g
    a b c d e o h sends
sent_all (Some all) None new text line f g a b c d e o h reads sends = absurd h
sent_all (Some all) (Some old) None text line f g a b c d e o h reads sends = absurd reads
sent_all (Some all) (Some old) (Some new) text line f g a b c d e o h reads sends =
    let lines : without_last_empty (parts_of all) ≡ h.done ++ unless_empty line =
    ap without_last_empty (h.whole ∙ ap (λ l. h.done ++ l) reads.0) ∙ without_last h.done line in
    subst (λ l. SendsSome (Some l) (f || g) (turned a c d o))
    (sym (ap (λ l. commands_after text (map strip_carriage_return l)) lines
    ∙ commands_append text h.done (unless_empty line)))
    (some_append (commands_after text (map strip_carriage_return h.done))
    (commands_after text (map strip_carriage_return (unless_empty line))) f g a b c d e o h.some
    sends)

pub fault_after : (commands : Option (List (List ℕ))) (f : Bool) (a b d e o : Option (List ℕ))
    → SendsSome commands f (turned a b d e) → EndsInFault e o → EndsInFault d o
fault_after commands f a b d e o p q = record {
  told = p.sends.told ++ q.told;
  last = q.last;
  faultless =
      all_append (λ l. is_fault (kind_of l) ≡ false) p.sends.told q.told p.sends.faultless
      q.faultless;
  fault = q.fault;
  printed =
      subst (λ l. Appends d o (flat_map line_shown l))
      (sym (append_assoc p.sends.told q.told (q.last ∷ [])))
      (prints_append d e o p.sends.told (q.told ++ q.last ∷ []) p.sends.printed q.printed);
}

-- A command was refused after others were done.
pub sent_fault : (all old : Option (List ℕ)) (text : List ℕ) (f : Bool)
    (a b d e o : Option (List ℕ)) → HasSentOf all old text f a b d e → EndsInFault e o
    → EndsInFault d o
sent_fault None old text f a b d e o h fault = fault_after None f a b d e o h fault
sent_fault (Some all) None text f a b d e o h fault = absurd h
sent_fault (Some all) (Some old) text f a b d e o h fault =
    fault_after (Some (commands_after text (map strip_carriage_return h.done))) f a b d e o h.some
    fault

-- An answer that is a fault.
pub answer_fault : (a b : Option (List ℕ)) → IsAnswer Refused a b → EndsInFault a b
answer_fault a b answer = record {
  told = answer.news;
  last = answer.last;
  faultless = news_faultless answer.news answer.others;
  fault = ap is_fault answer.answers;
  printed = answer.printed;
}

pub feeds_plain : (commands : Option (List (List ℕ))) (a b c d : Option (List ℕ))
    → SendsSome commands false (turned a b c d) → Feeds commands (turned a b c d)
feeds_plain commands a b c d p = record {
  sent = p.sent;
  answered = p.sends.told;
  followed = [];
  asked = p.asked;
  said = p.sends.said;
  faultless = subst (AllByRecursion (λ l. is_fault (kind_of l) ≡ false))
      (sym (append-nil p.sends.told)) p.sends.faultless;
  each = p.sends.each;
  ends = λ _. refl;
  printed = subst (λ l. Appends c d (flat_map line_shown l)) (sym (append-nil p.sends.told))
      p.sends.printed;
}

pub feeds_followed : (commands : Option (List (List ℕ))) (a b d e o : Option (List ℕ))
    → SendsSome commands true (turned a b d e) → TellsNoFault e o
    → Feeds commands (turned a b d o)
feeds_followed commands a b d e o p q = record {
  sent = p.sent;
  answered = p.sends.told;
  followed = q.told;
  asked = p.asked;
  said = p.sends.said;
  faultless =
      all_append (λ l. is_fault (kind_of l) ≡ false) p.sends.told q.told p.sends.faultless
      q.faultless;
  each = p.sends.each;
  ends = λ none. let clash : true ≡ false = p.follow ∙ none in cc;
  printed = prints_append d e o p.sends.told q.told p.sends.printed q.printed;
}

-- An empty part is no line.
pub some_no_line : (text line : List ℕ) (a b : Option (List ℕ)) → length line ≡ 0
    → SendsSome (Some (commands_after text (map strip_carriage_return (unless_empty line)))) false
    (turned a a b b)
some_no_line text [] a b h = some_nil a b
some_no_line text (octet ∷ line) a b h = absurd (omega (arith, h))
