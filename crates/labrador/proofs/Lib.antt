mod LoadNeeds
