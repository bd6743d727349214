-- The numbers of a clerk rise over the entries that replay.
use Rattle.std.proofs.Common.{◌≡◌, ℕ, ◌+◌, ◌<◌, ◌≤◌, Bool, true, false, cond, Option, Some}
use Rattle.std.proofs.Common.{None, List, [], ◌∷◌, ◌++◌, Result, Ok, Err, IfOk, refl, sym, ap, ◌∙◌}
use Rattle.std.proofs.Common.{arith, nat_le, option_and_then, subst}
use Rattle.std.specs.Result.{result_ok}
use Rattle.std.proofs.lemmas.Bool.Decides.{nat_tests}
use Rattle.reg_base.specs.Results.{◌>>=◌, some_or}
use Rattle.desk_model.specs.declared.last.Last.{Last}
use Rattle.desk_model.specs.State.{Setting, State, Command, first_state}
use Rattle.desk_model.specs.Effects.{Effect}
use Rattle.desk_model.specs.Plans.{Meaning}
use Rattle.desk_model.specs.Meanings.{meaning_of}
use Rattle.desk_model.specs.LastRequests.{last_of, lasts_with, with_last}
use Rattle.desk_model.specs.Limits.{records_in}
use Rattle.desk_model.specs.Serial.{SerialFault, serial, state_kept}
use Rattle.desk_model.proofs.ForAbove.{Acknowledges, HasReached, IsAbove, last_of-put, reached-below}
use Rattle.desk_model.proofs.ForAbove.{reached-put, serial-acknowledges}
use Rattle.desk_history.specs.Entries.{command_of}
use Rattle.desk_history.specs.Replays.{if_few, is_above, is_next, most_replayed_records}
use Rattle.desk_history.specs.Replays.{replay_command, replay_entry, replay_from, replayed}
use Rattle.desk_history.specs.ClerkOrder.{EntriesRise, IsNumbered}

-- ---- one entry

-- the request of an entry that replays was above its clerk's last one, and is his last one now
record Replaced (setting : Setting) (state next : State) (entry : List ℕ) : Type 0 where
  command : Command
  last : Last
  spelt : command_of entry ≡ Some command
  clerk_is : (meaning_of setting.config command.request).clerk ≡ last.clerk
  number_is : (meaning_of setting.config command.request).number ≡ Some last.number
  above : IsAbove (last_of last.clerk state.lasts) last.number
  lasts_are : next.lasts ≡ with_last last state.lasts

is_above-IsAbove : (last : Option Last) (number : ℕ) → is_above last number ≡ true →
    IsAbove last number
is_above-IsAbove None number is = tt
is_above-IsAbove (Some last) number is = grind (arith, nat_tests, is)

if_few-same : (state next : State) → if_few state ≡ Some next → state ≡ next
if_few-same state next is = at (nat_le (records_in state.documents) most_replayed_records) is
  where
    at : (b : Bool) → cond b (Some state) None ≡ Some next → state ≡ next
    at true e = cc
    at false e = absurd (cc)

module _ (setting : Setting) (state next : State) (entry : List ℕ) (c : Command)
    (spelt : command_of entry ≡ Some c) where
  abbrev meaning : Meaning
  meaning = meaning_of setting.config c.request

  -- once its number was found above the clerk's last one
  kept-Replaced : (number : ℕ) (effect : Effect) → meaning.number ≡ Some number →
      IsAbove (last_of meaning.clerk state.lasts) number → Acknowledges state effect →
      state_kept meaning c.request effect ≡ next → Replaced setting state next entry
  kept-Replaced number effect is above ack kept = record {
    command = c;
    last = record {
      clerk = meaning.clerk;
      number = number;
      request = c.request;
      acknowledgement = ack.acknowledgement;
    };
    spelt = spelt;
    clerk_is = refl;
    number_is = is;
    above = above;
    lasts_are = ap (λ s. s.lasts) (sym kept)
        ∙ ap (λ n. lasts_with meaning.clerk n c.request effect.answer effect.state.lasts) is
        ∙ ap (λ a. lasts_with meaning.clerk (Some number) c.request a effect.state.lasts)
        ack.answer_is ∙ ap (with_last (record {
          clerk = meaning.clerk;
          number = number;
          request = c.request;
          acknowledgement = ack.acknowledgement;
        })) ack.lasts_are;
  }

  command-Replaced : replay_command setting state c ≡ Some next →
      Replaced setting state next entry
  unfolding replay_command
  command-Replaced is = at meaning.number refl is
    where
      done : (number : ℕ) → meaning.number ≡ Some number →
          IsAbove (last_of meaning.clerk state.lasts) number →
          (came : Result Effect SerialFault) → IfOk came (Acknowledges state) →
          option_and_then (λ effect. if_few (state_kept meaning c.request effect)) (result_ok came)
          ≡ Some next → Replaced setting state next entry
      done number n above (Ok effect) ack e = kept-Replaced number effect n above ack
          (if_few-same (state_kept meaning c.request effect) next e)
      done number n above (Err fault) ack e = absurd (cc)

      above : (number : ℕ) → meaning.number ≡ Some number → (b : Bool) →
          is_above (last_of meaning.clerk state.lasts) number ≡ b →
          cond b (option_and_then (λ effect. if_few (state_kept meaning c.request effect))
          (result_ok (serial setting state c))) None ≡ Some next → Replaced setting state next entry
      above number n true b e = done number n
          (is_above-IsAbove (last_of meaning.clerk state.lasts) number b)
          (serial setting state c) (serial-acknowledges setting state c number n) e
      above number n false b e = absurd (cc)

      at : (number : Option ℕ) → meaning.number ≡ number →
          cond (is_next state.lasts meaning.clerk number)
          (option_and_then (λ effect. if_few (state_kept meaning c.request effect))
          (result_ok (serial setting state c))) None ≡ Some next → Replaced setting state next entry
      at None n e = absurd (cc)
      at (Some number) n e =
          above number n (is_above (last_of meaning.clerk state.lasts) number) refl e

entry-Replaced : (setting : Setting) (state next : State) (entry : List ℕ) →
    replay_entry setting state entry ≡ Some next → Replaced setting state next entry
unfolding replay_entry
entry-Replaced setting state next entry is = at (command_of entry) refl is
  where
    at : (found : Option Command) → command_of entry ≡ found →
        option_and_then (replay_command setting state) found ≡ Some next →
        Replaced setting state next entry
    at None f e = absurd (cc)
    at (Some c) f e = command-Replaced setting state next entry c f e

-- ---- entries

-- the first of entries that replay leaves a state from which the others do
record Goes (setting : Setting) (state end : State) (index : ℕ) (entry : List ℕ)
    (entries : List (List ℕ)) : Type 0 where
  next : State
  first : Replaced setting state next entry
  others : replay_from setting next (index + 1) entries ≡ Ok end

replay-Goes : (setting : Setting) (state end : State) (index : ℕ) (entry : List ℕ)
    (entries : List (List ℕ)) → replay_from setting state index (entry ∷ entries) ≡ Ok end →
    Goes setting state end index entry entries
replay-Goes setting state end index entry entries is = at (replay_entry setting state entry) refl is
  where
    at : (one : Option State) → replay_entry setting state entry ≡ one →
        (some_or one index >>= λ s. replay_from setting s (index + 1) entries) ≡ Ok end →
        Goes setting state end index entry entries
    at None o e = absurd (cc)
    at (Some next) o e = record {
      next = next;
      first = entry-Replaced setting state next entry o;
      others = e;
    }

-- the number of an entry that was replayed is that of its request
number-is : (setting : Setting) (state next : State) (entry clerk : List ℕ) (number : ℕ) →
    (one : Replaced setting state next entry) → IsNumbered setting entry clerk number →
    (one.last.clerk ≡ clerk) × (one.last.number ≡ number)
number-is setting state next entry clerk number one numbered =
    let some : Some one.command ≡ Some numbered.command = sym one.spelt ∙ numbered.spelt in
    let same : one.command ≡ numbered.command = cc in
    let clerks = sym one.clerk_is
    ∙ ap (λ c. (meaning_of setting.config c.request).clerk) same ∙ numbered.clerk_is in
    let numbers : Some one.last.number ≡ Some number = sym one.number_is
    ∙ ap (λ c. (meaning_of setting.config c.request).number) same ∙ numbered.number_is in
    (clerks, cc)

module _ (setting : Setting) (clerk : List ℕ) (number greater : ℕ) where
  -- an entry behind others has a number above what was reached before them
  later-above : (state end : State) (index : ℕ) (between after : List (List ℕ))
      (later : List ℕ) → replay_from setting state index (between ++ later ∷ after) ≡ Ok end →
      HasReached number (last_of clerk state.lasts) → IsNumbered setting later clerk greater →
      number < greater
  later-above state end index [] after later is reached numbered =
      let goes = replay-Goes setting state end index later after is in
      let own = number-is setting state goes.next later clerk greater goes.first numbered in
      let above = subst (λ (c : List ℕ). IsAbove (last_of c state.lasts) goes.first.last.number)
      own.0 goes.first.above in
      reached-below number greater (last_of clerk state.lasts) reached
      (subst (IsAbove (last_of clerk state.lasts)) own.1 above)
  later-above state end index (entry ∷ between) after later is reached numbered =
      let goes = replay-Goes setting state end index entry (between ++ later ∷ after) is in
      let kept = reached-put goes.first.last state.lasts clerk number goes.first.above reached in
      later-above goes.next end (index + 1) between after later goes.others
      (subst (λ (l : List Last). HasReached number (last_of clerk l)) (sym goes.first.lasts_are)
      kept) numbered

  -- of two entries of the clerk the later one has the greater number
  both-rise : (state end : State) (index : ℕ) (before between after : List (List ℕ))
      (entry later : List ℕ)
      → replay_from setting state index (before ++ entry ∷ between ++ later ∷ after) ≡ Ok end
      → IsNumbered setting entry clerk number → IsNumbered setting later clerk greater
      → number < greater
  unfolding HasReached
  both-rise state end index [] between after entry later is numbered above =
      let goes = replay-Goes setting state end index entry (between ++ later ∷ after) is in
      let own = number-is setting state goes.next entry clerk number goes.first numbered in
      let put : last_of clerk goes.next.lasts ≡ Some goes.first.last =
      ap (last_of clerk) goes.first.lasts_are
      ∙ ap (λ c. last_of c (with_last goes.first.last state.lasts)) (sym own.0)
      ∙ last_of-put goes.first.last state.lasts in
      let least : number ≤ goes.first.last.number = omega (arith, own.1) in
      later-above goes.next end (index + 1) between after later goes.others
      (subst (HasReached number) (sym put) least) above
  both-rise state end index (x ∷ before) between after entry later is numbered above =
      let goes = replay-Goes setting state end index x (before ++ entry ∷ between ++ later ∷ after)
      is in
      both-rise goes.next end (index + 1) before between after entry later goes.others numbered
      above

-- the numbers of each clerk rise over entries that replay
pub replayed-rise : (setting : Setting) (entries : List (List ℕ)) (state : State) →
    replayed setting entries ≡ Ok state → EntriesRise setting entries
replayed-rise setting entries state so before between after entry later clerk number greater
    are numbered above =
    both-rise setting clerk number greater first_state state 1 before between after entry later
    (ap (replayed setting) (sym are) ∙ so) numbered above
