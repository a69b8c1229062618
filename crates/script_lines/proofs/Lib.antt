mod CallLaws
mod CleanCalls
mod OneCall
mod SeqsLaws
mod WorkedReplies
mod WorkedTexts
